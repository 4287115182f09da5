-- Limits relaxed one after another, and round after round.
use Rattle.std.proofs.Common.{◌≡◌, ℕ, ◌+◌, ◌<◌, ◌≤◌, List, [], ◌∷◌, ◌++◌, length, get_or, take, Bor, refl, sym, ◌∙◌, subst, arith}
use Rattle.std.specs.List.{AllByRecursion}
use Rattle.std.proofs.ByRecursion.{All-append, All-take}
use Rattle.std.proofs.lemmas.List.{take_all, take_more}
use Rattle.problem.specs.Bounds.{max_events}
use Rattle.problem.specs.Timetables.{OfDay, minute}
use Rattle.problem.specs.declared.day.Day.{Day}
use Rattle.network.specs.Limits.{Keeps, nowhere}
use Rattle.network.specs.declared.limit.Limit.{Limit}
use Rattle.network.specs.declared.limit_list.LimitList.{LimitList}
use Rattle.network.proofs.Solutions.{all_first}
use Rattle.list_network.specs.declared.relax.Relaxation.{Relaxation}
use Rattle.list_network.specs.declared.relax.Effect.{Effect}
use Rattle.list_network.specs.declared.relax.Effect.TheVariants.{Rest, Raised}
use Rattle.list_network.specs.Effects.{joint}
use Rattle.list_network.specs.Relaxing.{Old, Candidate, Follows, Lost, Resting, Rising, Acted, SameLimits, Settling}

-- what holds of each of a list holds of each of its last part
pub all_right : (P : Limit → Type 0) (ls ks : List Limit) → AllByRecursion P (ls ++ ks) → AllByRecursion P ks
all_right P [] ks h = h
all_right P (l ∷ ls) ks h = all_right P ls ks h.1

-- what holds of the limits and the newest of them later held before
pub as_before : (r r' : Relaxation) (P : LimitList → Limit → Type 0) → SameLimits r r' → P r'.limits.now r'.newest → P r.limits.now r.newest
as_before r r' P same h =
    let F : Bor LimitList → Type 0 = λ b. P b.now r.newest in
    let G : Limit → Type 0 = λ n. P r'.limits.now n in
    subst F same.limits (subst G same.newest h)

module _ (day : Day) (newest : Limit) (ls ks : List Limit) where
  -- a candidate for both lists is one for each
  for_left : (us : List ℕ) (T : ℕ → ℕ) → Candidate day newest (ls ++ ks) us T → Candidate day newest ls us T
  for_left us T cand = record {
    timetable = cand.timetable;
    keeps_newest = cand.keeps_newest;
    keeps = all_first (Keeps T) ls ks cand.keeps;
    old = all_first (Old us newest) ls ks cand.old;
  }

  for_right : (us : List ℕ) (T : ℕ → ℕ) → Candidate day newest (ls ++ ks) us T → Candidate day newest ks us T
  for_right us T cand = record {
    timetable = cand.timetable;
    keeps_newest = cand.keeps_newest;
    keeps = all_right (Keeps T) ls ks cand.keeps;
    old = all_right (Old us newest) ls ks cand.old;
  }

  -- ks after ls: the effect of both
  then_rest : (ts ts₁ ts₂ : List ℕ) (e : Effect) → Acted day newest ls ts e ts₁ → Resting ks ts₁ ts₂ → Acted day newest (ls ++ ks) ts e ts₂
  then_rest ts ts₁ ts₂ Rest s q =
      let F : List ℕ → Type 0 = λ us. AllByRecursion (Keeps (minute us)) ks in
      record {
        same = q.same ∙ s.same;
        keeps = All-append (Keeps (minute ts)) ls ks s.keeps (subst F s.same q.keeps);
      }
  then_rest ts ts₁ ts₂ Raised s q =
      let F : List ℕ → Type 0 = Rising day newest (ls ++ ks) ts in
      subst F (sym q.same) (record { nearer = s.nearer; follows = λ us T cand. s.follows us T (for_left us T cand) })

  then_raised : (ts ts₁ ts₂ : List ℕ) (e : Effect) → Acted day newest ls ts e ts₁ → Rising day newest ks ts₁ ts₂ → Rising day newest (ls ++ ks) ts ts₂
  then_raised ts ts₁ ts₂ Rest s q =
      let F : List ℕ → Type 0 = λ us. Rising day newest (ls ++ ks) us ts₂ in
      subst F s.same (record { nearer = q.nearer; follows = λ us T cand. q.follows us T (for_right us T cand) })
  then_raised ts ts₁ ts₂ Raised s q = record {
    nearer = omega (arith, s.nearer, q.nearer);
    follows = λ us T cand low. q.follows us T (for_right us T cand) (s.follows us T (for_left us T cand) low);
  }

  pub then_lost : (ts ts₁ : List ℕ) (e : Effect) → Acted day newest ls ts e ts₁ → Lost day newest ks ts₁ → Lost day newest (ls ++ ks) ts
  then_lost ts ts₁ Rest s q =
      let F : List ℕ → Type 0 = Lost day newest (ls ++ ks) in
      subst F s.same (λ us T cand. q us T (for_right us T cand))
  then_lost ts ts₁ Raised s q = λ us T cand low. q us T (for_right us T cand) (s.follows us T (for_left us T cand) low)

  -- either effect after the other
  pub then_acted : (ts ts₁ ts₂ : List ℕ) (e e' : Effect) → Acted day newest ls ts e ts₁ → Acted day newest ks ts₁ e' ts₂ → Acted day newest (ls ++ ks) ts (joint e e') ts₂
  then_acted ts ts₁ ts₂ e Rest s q = then_rest ts ts₁ ts₂ e s q
  then_acted ts ts₁ ts₂ e Raised s q = then_raised ts ts₁ ts₂ e s q

  -- ls leave no minutes
  pub lost_first : (ts : List ℕ) → Lost day newest ls ts → Lost day newest (ls ++ ks) ts
  lost_first ts q = λ us T cand. q us T (for_left us T cand)

-- a round from ts that has relaxed the first i limits, and is at ts₁ now
module _ (day : Day) (newest : Limit) (ls : List Limit) (i : ℕ) (ts ts₁ : List ℕ) (e : Effect) (g : Acted day newest (take i ls) ts e ts₁) where
  module _ (within : i < length ls) where
    pub goes_on : (e' : Effect) (ts₂ : List ℕ) → Acted day newest (get_or ls i nowhere ∷ []) ts₁ e' ts₂ → Acted day newest (take (i + 1) ls) ts (joint e e') ts₂
    goes_on e' ts₂ q =
        let F : List Limit → Type 0 = λ ks. Acted day newest ks ts (joint e e') ts₂ in
        subst F (sym (take_more ls i nowhere within)) (then_acted day newest (take i ls) (get_or ls i nowhere ∷ []) ts ts₁ ts₂ e e' g q)

    -- the limit at i leaves no minutes
    pub goes_lost : Lost day newest (get_or ls i nowhere ∷ []) ts₁ → Lost day newest ls ts
    goes_lost q = λ us T cand. then_lost day newest (take i ls) (get_or ls i nowhere ∷ []) ts ts₁ e g q us T (for_first us T cand)
      where
        for_first : (us : List ℕ) (T : ℕ → ℕ) → Candidate day newest ls us T → Candidate day newest (take i ls ++ (get_or ls i nowhere ∷ [])) us T
        for_first us T cand =
            let F : List Limit → Type 0 = λ ks. Candidate day newest ks us T in
            subst F (take_more ls i nowhere within) (record {
              timetable = cand.timetable;
              keeps_newest = cand.keeps_newest;
              keeps = All-take (Keeps T) (i + 1) ls cand.keeps;
              old = All-take (Old us newest) (i + 1) ls cand.old;
            })

  pub round_ends : length ls ≤ i → Acted day newest ls ts e ts₁
  round_ends past =
      let F : List Limit → Type 0 = λ ks. Acted day newest ks ts e ts₁ in
      subst F (take_all i ls past) g

-- what does not raise a minute lets all rest
pub rests : (e : Effect) → (e ≡ Raised → ⊥) → e ≡ Rest
rests Rest other = refl
rests Raised other = absurd (other refl)

-- rounds from ts that are at ts₁ now
module _ (day : Day) (newest : Limit) (ls : List Limit) (ts ts₁ : List ℕ) (r : Follows day newest ls ts ts₁) where
  module _ (e : Effect) (ts₂ : List ℕ) (q : Acted day newest ls ts₁ e ts₂) where
    pub comes_to_rest : e ≡ Rest → length ts₁ ≡ max_events → OfDay day (minute ts₁) → Settling day newest ls ts ts₂
    comes_to_rest is size timetable =
        let F : Effect → Type 0 = λ e. Acted day newest ls ts₁ e ts₂ in
        let G : List ℕ → Type 0 = Settling day newest ls ts in
        let rest : Resting ls ts₁ ts₂ = subst F is q in
        subst G (sym rest.same) (record { size = size; timetable = timetable; keeps = rest.keeps; follows = r })

    pub rises : e ≡ Raised → Follows day newest ls ts ts₂
    rises is us T cand low =
        let F : Effect → Type 0 = λ e. Acted day newest ls ts₁ e ts₂ in
        let rising : Rising day newest ls ts₁ ts₂ = subst F is q in
        rising.follows us T cand (r us T cand low)

  pub gets_lost : Lost day newest ls ts₁ → Lost day newest ls ts
  gets_lost q us T cand low = q us T cand (r us T cand low)
