-- The least choice_cost among choices, one choice after another.
use Rattle.std.proofs.Common.{◌≡◌, ℕ, Bool, true, false, cond, List, [], ◌∷◌, ◌++◌, map, Some, None, Option, sym, refl, subst, subst₂, inl, inr, arith}
use Rattle.std.proofs.ByRecursion.{All-push, All-weaker}
use Rattle.std.proofs.lemmas.List.{append_assoc, append-nil}
use Rattle.std.proofs.lemmas.Bool.{false≢true}
use Rattle.std.proofs.lemmas.Bool.Decides.{Decides-and}
use Rattle.std.proofs.lemmas.Int.{ints}
use Rattle.std.specs.Bool.{Decides}
use Rattle.std.specs.List.{AllByRecursion, filter}
use Rattle.std.specs.Prelude.{ℤ, ◌≤ℤ◌, int_le}
use Rattle.counting.specs.Ways.{Way, AtMost, Laws}
use Rattle.counting.specs.declared.penalty.Penalty.{Penalty}
use Rattle.problem.specs.Costs.{choice_cost, Least}
use Rattle.problem.specs.Rules.{Rule}
use Rattle.problem.specs.Timetables.{Choice, option, give_up, giving_up, choices, gap, Meets, Chosen, Any}
use Rattle.problem.specs.declared.constraint.Disjunct.{Disjunct}
use Rattle.problem.specs.declared.constraint.Kind.TheVariants.{Firm, Wish}
use Rattle.costing.specs.Cheapest.{in_bounds, lesser, met_costs, least_cost, Unmet, Cheapest}

module _ {X : Type 0} (P : X → Type 0) where
  pub some_first : (xs ys : List X) → Any P xs → Any P (xs ++ ys)
  some_first [] ys h = absurd h
  some_first (x ∷ xs) ys (inl h) = inl h
  some_first (x ∷ xs) ys (inr h) = inr (some_first xs ys h)

  pub some_last : (xs : List X) (x : X) → P x → Any P (xs ++ x ∷ [])
  some_last [] x h = inl h
  some_last (y ∷ ys) x h = inr (some_last ys x h)

  -- some element and every element meet
  pub some_of_all : {Q R : X → Type 0} → ((x : X) → P x → Q x → R x) → (xs : List X) → Any P xs → AllByRecursion Q xs → Any R xs
  some_of_all f [] h k = h
  some_of_all f (x ∷ xs) (inl h) k = inl (f x h k.0)
  some_of_all f (x ∷ xs) (inr h) k = inr (some_of_all f xs h k.1)

pub some_const : {X : Type 0} (A : Type 0) (xs : List X) → Any (λ _. A) xs → A
some_const A [] h = absurd h
some_const A (x ∷ xs) (inl h) = h
some_const A (x ∷ xs) (inr h) = some_const A xs h

in_order : (a b : ℤ) → Decides (int_le a b) (a ≤ℤ b)
in_order a b = (λ h. grind (arith, ints), λ m. grind (arith, ints))

in_bounds_meets : (T : ℕ → ℕ) (d : Disjunct) → Decides (in_bounds T d) (Meets T d)
in_bounds_meets T d = Decides-and _ _ (in_order d.lo (gap T d.x d.y)) (in_order (gap T d.x d.y) d.hi)

module _ {C : Type 0} (way : Way C) (laws : Laws way) (T : ℕ → ℕ) (chs : List Choice) (ch : Choice) where
  abbrev AtPrice : C → Choice → Type 0
  AtPrice c x = Chosen T x × (choice_cost way x ≡ c)

  abbrev Above : C → Choice → Type 0
  Above c x = Chosen T x → AtMost way c (choice_cost way x)

  at_most_itself : (c : C) → AtMost way c c
  at_most_itself c = elim (laws.total c c) [ inl h ↦ h | inr h ↦ h ]

  -- the first choice that is met
  least_first : Unmet T chs → Chosen T ch → Least way T (chs ++ ch ∷ []) (choice_cost way ch)
  least_first u m = record {
    reached = some_last (AtPrice (choice_cost way ch)) chs ch (m, refl);
    lowest = All-push (Above (choice_cost way ch)) chs ch (All-weaker (λ x. Chosen T x → ⊥) (Above (choice_cost way ch)) (λ x n k. absurd (n k)) chs u) (λ _. at_most_itself (choice_cost way ch));
  }

  -- a choice that is not met, or costs as much or more
  least_stays : (c : C) → Least way T chs c → Above c ch → Least way T (chs ++ ch ∷ []) c
  least_stays c l h = record {
    reached = some_first (AtPrice c) chs (ch ∷ []) l.reached;
    lowest = All-push (Above c) chs ch l.lowest h;
  }

  -- a choice that is met and costs less
  least_falls : (c : C) → Least way T chs c → Chosen T ch → AtMost way (choice_cost way ch) c → Least way T (chs ++ ch ∷ []) (choice_cost way ch)
  least_falls c l m h = record {
    reached = some_last (AtPrice (choice_cost way ch)) chs ch (m, refl);
    lowest = All-push (Above (choice_cost way ch)) chs ch (All-weaker (Above c) (Above (choice_cost way ch)) (λ x k n. laws.trans (choice_cost way ch) c (choice_cost way x) h (k n)) chs l.lowest) (λ _. at_most_itself (choice_cost way ch));
  }

  lesser_of : (c : C) (b : Bool) → way.atmost c (choice_cost way ch) ≡ b → Least way T chs c → Chosen T ch
      → Least way T (chs ++ ch ∷ []) (cond b c (choice_cost way ch))
  lesser_of c true e l m = least_stays c l (λ _. e)
  lesser_of c false e l m =
      least_falls c l m (elim (laws.total c (choice_cost way ch)) [ inl h ↦ (let z : ◌≡◌ {A = Bool} false true = cc in absurd (false≢true z)) | inr h ↦ h ])

  -- one more choice, which is met
  pub cheapest_met : (o : Option C) → Cheapest way T chs o → Chosen T ch → Cheapest way T (chs ++ ch ∷ []) (Some (lesser way o (choice_cost way ch)))
  cheapest_met None u m = least_first u m
  cheapest_met (Some c) l m = lesser_of c (way.atmost c (choice_cost way ch)) refl l m

  -- one more choice, which is not
  pub cheapest_unmet : (o : Option C) → Cheapest way T chs o → (Chosen T ch → ⊥) → Cheapest way T (chs ++ ch ∷ []) o
  cheapest_unmet None u n = All-push (λ x. Chosen T x → ⊥) chs ch u n
  cheapest_unmet (Some c) l n = least_stays c l (λ m. absurd (n m))

module _ {C : Type 0} (way : Way C) (laws : Laws way) (T : ℕ → ℕ) where
  -- one option more, by whether it is met, and then the rest
  cheapest_step : (chs more : List Choice) (d : Disjunct) (fs : List Disjunct) (o : Option C) (t : Bool) → Decides t (Meets T d) → Cheapest way T chs o
      → ((n : Option C) → Cheapest way T (chs ++ option d ∷ []) n → Cheapest way T more (least_cost way n (map (λ x. way.reading x.penalty) fs)))
      → Cheapest way T more (least_cost way o (map (λ x. way.reading x.penalty) (cond t (d ∷ fs) fs)))
  cheapest_step chs more d fs o true m h rest = rest (Some (lesser way o (way.reading d.penalty))) (cheapest_met way laws T chs (option d) o h (m.0 refl))
  cheapest_step chs more d fs o false m h rest = rest o (cheapest_unmet way laws T chs (option d) o h (λ k. false≢true (m.1 k)))

  -- some options, after choices of which o is the cheapest
  cheapest_more : (chs : List Choice) (ds : List Disjunct) (o : Option C) → Cheapest way T chs o → Cheapest way T (chs ++ map option ds) (least_cost way o (met_costs way T ds))
  cheapest_more chs [] o h = subst (λ xs. Cheapest way T xs o) (sym (append-nil chs)) h
  cheapest_more chs (d ∷ ds) o h =
      cheapest_step chs (chs ++ option d ∷ map option ds) d (filter (in_bounds T) ds) o (in_bounds T d) (in_bounds_meets T d) h
      (λ n k. subst (λ xs. Cheapest way T xs (least_cost way n (met_costs way T ds))) (append_assoc chs (option d ∷ []) (map option ds)) (cheapest_more (chs ++ option d ∷ []) ds n k))

  module _ (r : Rule) (o : Option C) (least : o ≡ least_cost way None (met_costs way T r.options)) where
    options_cheapest : Cheapest way T (map option r.options) o
    options_cheapest = subst (Cheapest way T (map option r.options)) (sym least) (cheapest_more [] r.options None tt)

    -- the choices of a firm rule are its options
    pub cheapest_firm : r.kind ≡ Firm → Cheapest way T (choices r) o
    cheapest_firm k =
        subst (λ kind. Cheapest way T (map option r.options ++ giving_up kind) o) (sym k)
        (subst (λ xs. Cheapest way T xs o) (sym (append-nil (map option r.options))) options_cheapest)

    -- those of a wish have giving up as the last
    pub cheapest_wish : (p : Penalty) (c : C) → r.kind ≡ Wish p → c ≡ lesser way o (way.reading p) → Least way T (choices r) c
    cheapest_wish p c k e = subst₂ (λ kind x. Least way T (map option r.options ++ giving_up kind) x) (sym k) (sym e) (cheapest_met way laws T (map option r.options) (give_up p) o options_cheapest tt)
