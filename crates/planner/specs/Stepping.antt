-- What a step of the program relies on and keeps.
--   kept_best   the price of the kept plan, if one is kept
--   Ready       the progress is sound, the kept price is known, and the network has the first choices loaded
--   Pressed     so many steps were made: as many as asked for, or fewer because the search has ended
use Rattle.std.specs.Prelude.{◌≡◌, ℕ, ◌<◌, ◌≤◌, List, Some, Option}
use Rattle.std.specs.Option.{option_map}
use Rattle.counting.specs.Ways.{Way}
use Rattle.problem.specs.Rules.{Rule}
use Rattle.problem.specs.declared.day.Day.{Day}
use Rattle.network.specs.Nets.{Net}
use Rattle.search.specs.Searches.{State, Steps, Ended}
use Rattle.search.specs.Selections.{price}
use Rattle.planner.specs.Choosing.{Choices}
use Rattle.planner.specs.Facts.{SoundProgress, state_of}
use Rattle.planner.specs.Loading.{Loaded}
use Rattle.planner.specs.declared.progress.Progress.{Progress}

-- of the selection that is kept
abbrev pub kept_best : {C : Type 0} → Way C → List Rule → Progress → Option C
kept_best way rules p = option_map (price way rules) (state_of p).kept

module _ {C : Type 0} (way : Way C) (day : Day) (rules : List Rule) where
  pub record Ready (p : Progress) (best : Option C) (depth : ℕ) (m : Net) : Type 0 where
    pub sound : SoundProgress day rules p
    pub price_is : best ≡ kept_best way rules p
    pub loaded : (position : Choices) → p.position ≡ Some position → Loaded day rules position.items depth m

  -- n steps of at most k lead from s to t
  pub record Pressed (s : State) (k n : ℕ) (t : State) : Type 0 where
    pub steps : Steps way day rules s n t
    pub few : n ≤ k
    pub fewer : n < k → Ended rules t
