-- What a planner of the program means.
--   draft_view    the view of a draft
--   search_view   the view of a search
--   view_of       the view of a planner in either state
use Rattle.problem.specs.Problems.{rules_of}
use Rattle.planner.specs.Views.{search_state}
use Rattle.planner.specs.declared.states.Draft.{Draft}
use Rattle.planner.specs.declared.states.Search.{Search}
use Rattle.histories.specs.Histories.{View, drafting, searching}
use Rattle.histories.specs.declared.planners.Planner.{Planner}

-- its day and rules
abbrev pub draft_view : {N : Type 0} → Draft N → View
draft_view d = drafting d.problem.day (rules_of d.problem)

-- its day, rules and state
abbrev pub search_view : {W N : Type 0} → Search W N → View
search_view s = searching s.problem.day (rules_of s.problem) (search_state s)

abbrev pub view_of : {W N : Type 0} → Planner W N → View
view_of (Planner.Draft d) = draft_view d
view_of (Planner.Search s) = search_view s
