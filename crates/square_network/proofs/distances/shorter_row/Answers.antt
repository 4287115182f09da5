use Rattle.std.proofs.Common.{◌≡◌, pos, ◌+ℤ◌, arith, rules}
use Rattle.std.specs.Int.{int_min, int_wrap, w16}
use Rattle.square_network.specs.Rows.{to}
use Rattle.square_network.proofs.FromFn.{each_made}
use Rattle.square_network.proofs.distances.shorter_row.Goals as goal

pub returns : goal.returns
returns c j column =
    each_made _ _ _ _ c.from_fn.ensures.items
    (λ p. (p.0.now ≡ c.args.row.now) × (p.1.now ≡ c.args.to_limit) × (p.2.now ≡ c.args.beyond.now))
    (λ k y. y ≡ int_min (to c.args.row.now k) (int_wrap w16 (c.args.to_limit +ℤ to c.args.beyond.now k))) (search rules)
    (λ p q k y keeps called. search rules) j (pos 0) (omega arith)
