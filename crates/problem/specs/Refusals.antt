-- The numbers of the refusals.
--   refusal_number   the number by which a refusal is known
use Rattle.std.specs.Prelude.{ℕ}
use Rattle.problem.specs.declared.refusal.Refusal.{Refusal}
use Rattle.problem.specs.declared.refusal.Refusal.TheVariants as refusal

-- the number that stands for it in print and in documents
abbrev pub refusal_number : Refusal → ℕ
refusal_number refusal.EventCount = 1
refusal_number refusal.HorizonRange = 2
refusal_number refusal.RulesStand = 3
refusal_number refusal.RuleCount = 4
refusal_number refusal.DisjunctCount = 5
refusal_number refusal.EventPair = 6
refusal_number refusal.BoundRange = 7
refusal_number refusal.PenaltyRange = 8
refusal_number refusal.NoSuchRule = 9
refusal_number refusal.PressRange = 10
refusal_number refusal.NoPlan = 11
refusal_number refusal.NoSuchEvent = 12
refusal_number refusal.LimitCount = 13
refusal_number refusal.Clash = 14
refusal_number refusal.NoLimit = 15
refusal_number refusal.TextSize = 16
refusal_number refusal.LineKind = 17
refusal_number refusal.FieldCount = 18
refusal_number refusal.NumberForm = 19
refusal_number refusal.TextEnd = 20
refusal_number refusal.UnknownWay = 21
refusal_number refusal.StepLimit = 22
refusal_number refusal.BufferSize = 23
