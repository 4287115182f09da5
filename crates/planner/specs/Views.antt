-- What a planner means.
--   search_state   which selections of a search are settled, and which is kept
use Rattle.search.specs.Searches.{State}
use Rattle.planner.specs.Facts.{state_of}
use Rattle.planner.specs.declared.states.Search.{Search}

-- the state that its progress stands for
abbrev pub search_state : {W N : Type 0} → Search W N → State
search_state s = state_of s.progress
