-- Bytes that are taken up to the first line feed.
use Rattle.std.proofs.Common.{◌≡◌, ℕ, ◌+◌, ◌-◌, ◌<◌, ◌≤◌, List, length, take, drop, slice_range, Option, sym, ap, ◌∙◌, arith, length-take, drop-drop}
use Rattle.std.proofs.lemmas.List.{drop-take}
use Rattle.std.specs.List.{list_any}
use Rattle.std.specs.Io.BufRead.{drop_through}
use Rattle.lines.specs.Source.{line_feed, is_feed, grown}

-- what is to come of the bytes behind a place is what is to come of all of them
pub record Behind (bytes : List ℕ) (place : ℕ) (text_first text : Option (List ℕ)) : Type 0 where
  pub feed : list_any is_feed (drop place bytes) ≡ list_any is_feed bytes
  pub rest : drop_through line_feed (drop place bytes) ≡ drop_through line_feed bytes
  pub text_at_end : grown text (drop place bytes) ≡ grown text_first bytes

-- a range that begins further on
range_on : (xs : List ℕ) (a e n : ℕ) → a + n ≤ e → slice_range xs (a + n) e ≡ drop n (slice_range xs a e)
range_on xs a e n within =
    let whole : n + (e - (a + n)) ≡ e - a = omega (arith, within) in
    ap (take (e - (a + n))) (sym (drop-drop n a xs))
    ∙ sym (drop-take n (e - (a + n)) (drop a xs))
    ∙ ap (λ k. drop n (take k (drop a xs))) whole

-- the same behind one of its places
pub range_behind : (xs : List ℕ) (a e place : ℕ) → a ≤ e → place < length (slice_range xs a e) → slice_range xs (a + (place + 1)) e ≡ drop (place + 1) (slice_range xs a e)
range_behind xs a e place ordered within = range_on xs a e (place + 1) (omega (arith, ordered, within, length-take (e - a) (drop a xs)))
