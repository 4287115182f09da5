use Rattle.std.proofs.Common.{◌≡◌, ◌+◌, ◌-◌, length, vec_items, ap, ◌∙◌, subst, arith}
use Rattle.std.proofs.lemmas.List.Elements.{at_read}
use Rattle.std.specs.List.{HoldsAt}
use Rattle.square_network.specs.Distances.{Shortened}
use Rattle.square_network.specs.declared.distances.Distances.{Distances}
use Rattle.square_network.proofs.Held.{copy_is, written_is}
use Rattle.square_network.proofs.square.calls.lengthen.Goals as goal

pub returns-clause-items : goal.returns-clause-items
returns-clause-items c =
    let ds = vec_items c.args.tables.now in
    let d = c.index-copy.result.now in
    let n = c.len-newest.result - 1 in
    let there : n ≡ length ds - 1 = omega arith in
    let next = c.shorten.new.self in
    let same : c.index_mut.result.now ≡ d =
    copy_is ds c.push_reserved.new.self.items d c.push_reserved.ensures.items (n + 1) (omega arith) c.index_mut.result.now c.index_mut.ensures.value in
    record {
      next = next;
      behind = written_is ds c.push_reserved.new.self.items d c.push_reserved.ensures.items (n + 1) (omega arith) next;
      of_day =
          subst (HoldsAt (λ (e : Distances). next.day ≡ e.day) ds) there
          (at_read ds (λ (e : Distances). next.day ≡ e.day) n d (omega arith) c.index-copy.ensures
          (c.shorten.ensures.day ∙ ap (λ (e : Distances). e.day) same));
      shortened =
          subst (HoldsAt (λ (e : Distances). Shortened e.day e.rows c.args.limit next.rows) ds) there
          (at_read ds (λ (e : Distances). Shortened e.day e.rows c.args.limit next.rows) n d (omega arith) c.index-copy.ensures
          (subst (λ (e : Distances). Shortened e.day e.rows c.args.limit next.rows) same c.shorten.ensures.rows));
    }
