use Rattle.square_network.proofs.Longer.{near, longer_zeros, longer_triangle, longer_starts, longer_ends}
use Rattle.square_network.proofs.distances.Distances.shorten.Goals as goal

pub shorten_rows-requires-clause-near : goal.shorten_rows-requires-clause-near
shorten_rows-requires-clause-near c = near c.args.self.now

pub invariant_of-self : goal.invariant_of-self
invariant_of-self c =
    let d = c.args.self.now in
    let l = c.args.limit in
    record {
      same = longer_zeros d l c.requires.lawful c.requires.free _ c.shorten_rows.ensures;
      triangle = longer_triangle d l c.requires.lawful c.requires.free _ c.shorten_rows.ensures;
      first = longer_starts d l c.requires.lawful c.requires.free _ c.shorten_rows.ensures;
      last = longer_ends d l c.requires.lawful c.requires.free _ c.shorten_rows.ensures;
    }
