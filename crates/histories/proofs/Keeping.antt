-- What holds after every list of calls: rules fit their day, and a search has come to its state by steps from its start.
use Rattle.std.proofs.Common.{ℕ, zero, suc, List, sym, refl, subst}
use Rattle.counting.specs.Ways.{Way}
use Rattle.problem.specs.Checks.{rule_checks}
use Rattle.problem.specs.Rules.{Rule, rule_of}
use Rattle.problem.specs.declared.day.Day.{Day}
use Rattle.problem.proofs.Fit.{passes_all, passes_push}
use Rattle.problem.specs.Problems.{rules_adopt_checks}
use Rattle.problem.proofs.Said.{passes_removed}
use Rattle.search.specs.Searches.{State, Steps, After}
use Rattle.search.specs.Selections.{Fit}
use Rattle.histories.specs.Histories.{Answered, View, drafting, searching, Acts, Means, Made}
use Rattle.histories.specs.declared.calls.Call.{Call}
use Rattle.std.proofs.lemmas.Bool.{and_parts}

module _ {C : Type 0} (way : Way C) where
  abbrev pub Kept : View → Type 0
  Kept (drafting day rules) = Fit day rules
  Kept (searching day rules s) = Fit day rules × ((k : ℕ) × After way day rules k s)

  -- steps go on from where steps led
  after_steps : (day : Day) (rules : List Rule) (k n : ℕ) (s t : State) → After way day rules k s → Steps way day rules s n t → (m : ℕ) × After way day rules m t
  after_steps day rules k zero s t a e = (k, subst (After way day rules k) e a)
  after_steps day rules k (suc n) s t a (u, steps, step) = let b = after_steps day rules k n s u a steps in (suc b.0, (u, b.1, step))

  acts_kept : (c : Call) (v w : View) (a : Answered C) → Acts way c v w a → Kept v → Kept w
  acts_kept c v w a (Acts.sets day new rules n h p e f) k = refl
  acts_kept c v w a (Acts.sets_not day rules n h e p) k = k
  acts_kept c v w a (Acts.adopts day rules r p) k =
      passes_push (rule_checks day) rules (rule_of r) k (and_parts _ _ (passes_all (rules_adopt_checks day rules (rule_of r)) (sym p))).1
  acts_kept c v w a (Acts.returns day rules r e p) k = k
  acts_kept c v w a (Acts.drops day rules i p) k = passes_removed (rule_checks day) rules i k
  acts_kept c v w a (Acts.drops_not day rules i e p) k = k
  acts_kept c v w a (Acts.closes day rules s h) k = (k, (0, h))
  acts_kept c v w a (Acts.presses day rules s t n m p h) k = (k.0, after_steps day rules k.1.0 m s t k.1.1 h.steps)
  acts_kept c v w a (Acts.presses_not day rules s n e p) k = k
  acts_kept c v w a (Acts.tells day rules s o h) k = k
  acts_kept c v w a (Acts.reads day rules s i t p h) k = k
  acts_kept c v w a (Acts.reads_not day rules s i e p) k = k
  acts_kept c v w a (Acts.reopens day rules s) k = k.0

  means_kept : (c : Call) (v w : View) (a : Answered C) → Means way c v w a → Kept v → Kept w
  means_kept c v w a (Means.acts d x y b h) k = acts_kept d x y b h k
  means_kept c v w a (Means.misplaced d x h) k = k

  pub made_kept : (cs : List Call) (v : View) (answers : List (Answered C)) → Made way cs v answers → Kept v
  made_kept cs v answers (Made.nothing day e h) = refl
  made_kept cs v answers (Made.more ds u w ys c a m h) = means_kept c u w a h (made_kept ds u ys m)
