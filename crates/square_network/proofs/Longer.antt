-- Distances are near, and stay closed once a limit that leaves the way back is put on.
use Rattle.std.proofs.Common.{ℕ, ◌<◌, pos, ◌+ℤ◌, ◌≤ℤ◌, ◌∙◌, arith}
use Rattle.std.proofs.lemmas.Int.{ints}
use Rattle.network.specs.Limits.{Lawful}
use Rattle.network.specs.declared.limit.Limit.{Limit}
use Rattle.network.proofs.Taken.{lawful_x, lawful_y}
use Rattle.square_network.specs.Distances.{Square, at, through, Zeros, Triangle, Starts, Ends, Near, Shortened}
use Rattle.square_network.specs.declared.distances.Distances.{Distances}
use Rattle.square_network.proofs.Shorter.{under_old, under_new, same_kept, triangle_kept}

module _ (d : Distances) where
  pub near : Near d.day d.rows
  near i j row column =
      let day = d.day in
      let out = d.triangle i 0 j row day.some column in
      let back = d.triangle j 0 i column day.some row in
      let round = d.triangle i j i row column row in
      let e = d.same i row in
      let a = d.last i row in
      let b = d.first i row in
      let c = d.last j column in
      let f = d.first j column in
      (omega (arith, ints, day.week), omega (arith, ints, day.week))

  module _ (l : Limit) (lawful : Lawful d.day l) (free : pos 0 ≤ℤ (at d.rows l.y l.x +ℤ l.bound)) (D' : Square) (shortened : Shortened d.day d.rows l D') where
    row : l.x < d.day.events
    row = lawful_x d.day l lawful

    column : l.y < d.day.events
    column = lawful_y d.day l lawful

    -- no way gets longer
    pub old_way : (i j : ℕ) → i < d.day.events → j < d.day.events → at D' i j ≤ℤ at d.rows i j
    old_way i j p q =
        let e = shortened i j p q in
        let u = under_old (at d.rows i j) (through d.rows l i j) in
        omega (arith, ints)

    -- nor is any longer than by way of the limit
    pub new_way : (i j : ℕ) → i < d.day.events → j < d.day.events → at D' i j ≤ℤ through d.rows l i j
    new_way i j p q =
        let e = shortened i j p q in
        let u = under_new (at d.rows i j) (through d.rows l i j) in
        omega (arith, ints)

    pub longer_zeros : Zeros d.day D'
    longer_zeros i p =
        shortened i i p p
        ∙ same_kept (at d.rows i i) (at d.rows i l.x) l.bound (at d.rows l.y i) (at d.rows l.y l.x) (d.same i p) (d.triangle l.y i l.x column p row) free

    pub longer_triangle : Triangle d.day D'
    longer_triangle i j m p q r =
        let t =
        triangle_kept (at d.rows i m) (at d.rows i j) (at d.rows j m) (at d.rows i l.x) (at d.rows j l.x) l.bound (at d.rows l.y j) (at d.rows l.y m)
        (at d.rows l.y l.x) (d.triangle i j m p q r) (d.triangle i j l.x p q row) (d.triangle l.y j m column q r) (d.triangle l.y j l.x column q row) free in
        let e = shortened i m p r in
        let f = shortened i j p q in
        let g = shortened j m q r in
        omega (arith, ints)

    pub longer_starts : Starts d.day D'
    longer_starts i p = let w = old_way 0 i d.day.some p in let f = d.first i p in omega (arith, ints)

    pub longer_ends : Ends d.day D'
    longer_ends i p = let w = old_way i 0 p d.day.some in let f = d.last i p in omega (arith, ints)
