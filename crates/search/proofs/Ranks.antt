-- Costs by rank: what follows where joining keeps its laws only up to costs that are at most each other.
use Rattle.std.proofs.Common.{◌≡◌, ℕ, zero, suc, ◌⊎◌, List, [], ◌∷◌, take, fold, subst, inl, inr}
use Rattle.counting.specs.Ways.{Way, AtMost, Laws}
use Rattle.problem.specs.Costs.{Pairwise}

module _ {C : Type 0} (way : Way C) where
  -- each is at most the other
  abbrev pub Alike : C → C → Type 0
  Alike x y = AtMost way x y × AtMost way y x

  -- the laws, with equality only by rank
  pub record Ranked : Type 0 where
    pub total : (x y : C) → AtMost way x y ⊎ AtMost way y x
    pub trans : (x y z : C) → AtMost way x y → AtMost way y z → AtMost way x z
    pub assoc : (x y z : C) → Alike (way.join (way.join x y) z) (way.join x (way.join y z))
    pub comm : (x y : C) → Alike (way.join x y) (way.join y x)
    pub neutral : (x : C) → Alike (way.join x way.zero) x
    pub least : (x : C) → AtMost way way.zero x
    pub mono : (x y z : C) → AtMost way x y → AtMost way (way.join x z) (way.join y z)

  ranked_self : ((x y : C) → AtMost way x y ⊎ AtMost way y x) → (x : C) → AtMost way x x
  ranked_self total x = elim (total x x) [ inl h ↦ h | inr h ↦ h ]

  equal_alike : ((x y : C) → AtMost way x y ⊎ AtMost way y x) → (x y : C) → x ≡ y → Alike x y
  equal_alike total x y e = (subst (AtMost way x) e (ranked_self total x), subst (λ z. AtMost way z x) e (ranked_self total x))

  -- a way that keeps the laws keeps them by rank
  pub ranked : Laws way → Ranked
  ranked laws = record {
    total = laws.total;
    trans = laws.trans;
    assoc = λ x y z. equal_alike laws.total _ _ (laws.assoc x y z);
    comm = λ x y. equal_alike laws.total _ _ (laws.comm x y);
    neutral = λ x. equal_alike laws.total _ _ (laws.neutral x);
    least = laws.least;
    mono = laws.mono;
  }

module _ {C : Type 0} (way : Way C) (laws : Ranked way) where
  pub self : (x : C) → AtMost way x x
  self = ranked_self way laws.total

  -- joining keeps 'at most' on both sides
  pub join_at_most : (a b x y : C) → AtMost way a b → AtMost way x y → AtMost way (way.join a x) (way.join b y)
  join_at_most a b x y h i =
      laws.trans _ _ _ (laws.mono a b x h)
      (laws.trans _ _ _ (laws.comm b x).0 (laws.trans _ _ _ (laws.mono x y b i) (laws.comm y b).0))

  -- a join is no lower than what it is made of
  grows : (a x : C) → AtMost way a (way.join a x)
  grows a x = laws.trans _ _ _ (laws.neutral a).1 (join_at_most a a way.zero x (self a) (laws.least x))

  pub fold_grows : (a : C) (xs : List C) → AtMost way a (fold way.join a xs)
  fold_grows a [] = self a
  fold_grows a (x ∷ xs) = laws.trans _ _ _ (grows a x) (fold_grows (way.join a x) xs)

  -- a prefix joins to no more than the whole
  pub fold_take : (a : C) (j : ℕ) (xs : List C) → AtMost way (fold way.join a (take j xs)) (fold way.join a xs)
  fold_take a zero xs = fold_grows a xs
  fold_take a (suc j) [] = self a
  fold_take a (suc j) (x ∷ xs) = fold_take (way.join a x) j xs

  -- lists of costs that are at most each other, place by place, join so too
  pub fold_at_most : (a b : C) (xs ys : List C) → AtMost way a b → Pairwise (AtMost way) xs ys → AtMost way (fold way.join a xs) (fold way.join b ys)
  fold_at_most a b [] [] h p = h
  fold_at_most a b [] (y ∷ ys) h p = absurd p
  fold_at_most a b (x ∷ xs) [] h p = absurd p
  fold_at_most a b (x ∷ xs) (y ∷ ys) h p = fold_at_most (way.join a x) (way.join b y) xs ys (join_at_most a b x y h p.0) p.1
