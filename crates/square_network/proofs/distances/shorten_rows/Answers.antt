use Rattle.std.proofs.Common.{◌≡◌, ◌+ℤ◌, ◌≤ℤ◌, List, [], length, get_or, take, ℤ, sym, subst, arith, rules}
use Rattle.std.proofs.lemmas.List.{length-take-le}
use Rattle.network.proofs.Taken.{lawful_y}
use Rattle.square_network.specs.Rows.{to, NearRow, ShortenedRow}
use Rattle.square_network.proofs.Rows.{rows_none, row_more, rows_all}
use Rattle.square_network.proofs.distances.shorten_rows.Goals as goal

pub loop-row-init : goal.loop-row-init
loop-row-init c = rows_none c.args.day c.args.rows.now c.args.limit c.events.result c.events.ensures

pub shorten_row-requires-clause-near : goal.shorten_row-requires-clause-near
shorten_row-requires-clause-near c =
    let D = c.args.rows.now in
    let long : length (take c.events.result D) ≡ c.events.result = length-take-le c.events.result D (omega arith) in
    let same = c.loop-row.invariant.left c.loop-row.row-index (omega arith) (omega arith) in
    subst (NearRow c.args.day) (sym same) (λ j column. c.requires.near c.loop-row.row-index j (omega arith) column)

pub shorten_row-requires-clause-onward : goal.shorten_row-requires-clause-onward
shorten_row-requires-clause-onward c j column =
    let D = c.args.rows.now in
    let l = c.args.limit in
    let long : length (take c.events.result D) ≡ c.events.result = length-take-le c.events.result D (omega arith) in
    let same = c.loop-row.invariant.left c.loop-row.row-index (omega arith) (omega arith) in
    let F : List ℤ → Type 0 = λ R. to R j ≤ℤ (to R l.y +ℤ to (get_or D l.y []) j) in
    let onward : F (get_or c.loop-row.row-items c.loop-row.row-index []) =
    subst F (sym same) (c.requires.triangle c.loop-row.row-index l.y j (omega arith) (lawful_y c.args.day l c.requires.lawful) column) in
    search rules

pub loop-row-preserved : goal.loop-row-preserved
loop-row-preserved c =
    let D = c.args.rows.now in
    let i = c.loop-row.row-index in
    let long : length (take c.events.result D) ≡ c.events.result = length-take-le c.events.result D (omega arith) in
    let same = c.loop-row.invariant.left i (omega arith) (omega arith) in
    let F : List ℤ → Type 0 = λ R. ShortenedRow c.args.day R (get_or D c.args.limit.y []) c.args.limit c.shorten_row.new.row in
    row_more c.args.day D c.args.limit i c.loop-row.row-items c.shorten_row.new.row c.loop-row.invariant (omega arith) (subst F same c.shorten_row.ensures)

pub returns : goal.returns
returns c =
    let D = c.args.rows.now in
    let long : length (take c.events.result D) ≡ c.events.result = length-take-le c.events.result D (omega arith) in
    rows_all c.args.day D c.args.limit c.loop-row.row-index c.loop-row.row-items _ c.loop-row.invariant (omega arith) (omega arith)
