use Rattle.std.proofs.Common.{◌≡◌, ◌≤◌, length, bit_or, ◌*◌, ◌%◌, ◌^◌, ◌+◌, take, sym, ap, ◌∙◌, arith}
use Rattle.std.specs.Iterator.Adapters.{zip_first, zip_second, enumerate_source, enumerate_count}
use Rattle.std.specs.Slice.Iter.{iter_rest}
use Rattle.search.specs.Outcomes.{given_bits}
use Rattle.planner.specs.Choosing.{as_option, choice_in, rules_in}
use Rattle.planner.proofs.Bits.{bits_none, bits_set, bits_clear}
use Rattle.planner.proofs.Reading.{few_choices, number_is, number_within, number_read, numbers_end, taken_more}
use Rattle.planner.proofs.selection.Selection.given_up.Goals as goal

pub loop-i-init : goal.loop-i-init
loop-i-init c = sym (bits_none (rules_in c.args.self))

pub loop-i-preserved-then-is_none : goal.loop-i-preserved-then-is_none
loop-i-preserved-then-is_none c =
    let s = c.args.self in
    let first : iter_rest (zip_first (enumerate_source c.into_iter-i-iterator.result)) ≡ c.rules.result.now = cc in
    let second : iter_rest (zip_second (enumerate_source c.into_iter-i-iterator.result)) ≡ s.choices.now = cc in
    let start : enumerate_count c.into_iter-i-iterator.result ≡ 0 = cc in
    let xs = c.loop-i.yielded in
    let i : c.in-Some.i ≡ length xs = number_is (rules_in s) c.rules.result.now c.rules.ensures s.choices.now s.selected c.loop-i.yielded _ c.loop-i.i-iterator c.next.new.self c.next.result first second start c.loop-i.yielded_by c.next.ensures.steps c.in-Some.i c.in-Some.rule c.in-Some.choice c.in-Some.is in
    let within = number_within (rules_in s) c.rules.result.now c.rules.ensures s.choices.now s.selected c.loop-i.yielded _ c.loop-i.i-iterator c.next.new.self c.next.result first second start c.loop-i.yielded_by c.next.ensures.steps c.in-Some.i c.in-Some.rule c.in-Some.choice c.in-Some.is in
    let few : length s.choices.now ≤ 32 = few_choices s.problem.now s.choices.now s.selected in
    let read : c.option_of.result ≡ as_option (choice_in s (length xs)) = c.option_of.ensures ∙ rw c.from.ensures (ap as_option (sym (number_read (rules_in s) c.rules.result.now c.rules.ensures s.choices.now s.selected c.loop-i.yielded _ c.loop-i.i-iterator c.next.new.self c.next.result first second start c.loop-i.yielded_by c.next.ensures.steps c.in-Some.i c.in-Some.rule c.in-Some.choice c.in-Some.is))) in
    let more = ap (given_bits (rules_in s)) (sym (taken_more xs (c.in-Some.i, (c.in-Some.rule, c.in-Some.choice)) s.choices.now)) in
    let set : bit_or c.loop-i.word ((1 * 2 ^ c.in-Some.i) % 2 ^ 32) ≡ given_bits (rules_in s) (take (length xs + 1) s.choices.now) =
    bits_set (rules_in s) s.choices.now (length xs) s.selected within c.loop-i.word c.loop-i.invariant c.option_of.result read c.if-is_none.ensures (omega arith) _ (ap (λ k. bit_or c.loop-i.word ((1 * 2 ^ k) % 2 ^ 32)) i) in
    cc

pub loop-i-preserved : goal.loop-i-preserved
loop-i-preserved c =
    let s = c.args.self in
    let first : iter_rest (zip_first (enumerate_source c.into_iter-i-iterator.result)) ≡ c.rules.result.now = cc in
    let second : iter_rest (zip_second (enumerate_source c.into_iter-i-iterator.result)) ≡ s.choices.now = cc in
    let start : enumerate_count c.into_iter-i-iterator.result ≡ 0 = cc in
    let xs = c.loop-i.yielded in
    let i : c.in-Some.i ≡ length xs = number_is (rules_in s) c.rules.result.now c.rules.ensures s.choices.now s.selected c.loop-i.yielded _ c.loop-i.i-iterator c.next.new.self c.next.result first second start c.loop-i.yielded_by c.next.ensures.steps c.in-Some.i c.in-Some.rule c.in-Some.choice c.in-Some.is in
    let within = number_within (rules_in s) c.rules.result.now c.rules.ensures s.choices.now s.selected c.loop-i.yielded _ c.loop-i.i-iterator c.next.new.self c.next.result first second start c.loop-i.yielded_by c.next.ensures.steps c.in-Some.i c.in-Some.rule c.in-Some.choice c.in-Some.is in
    let few : length s.choices.now ≤ 32 = few_choices s.problem.now s.choices.now s.selected in
    let read : c.option_of.result ≡ as_option (choice_in s (length xs)) = c.option_of.ensures ∙ rw c.from.ensures (ap as_option (sym (number_read (rules_in s) c.rules.result.now c.rules.ensures s.choices.now s.selected c.loop-i.yielded _ c.loop-i.i-iterator c.next.new.self c.next.result first second start c.loop-i.yielded_by c.next.ensures.steps c.in-Some.i c.in-Some.rule c.in-Some.choice c.in-Some.is))) in
    let more = ap (given_bits (rules_in s)) (sym (taken_more xs (c.in-Some.i, (c.in-Some.rule, c.in-Some.choice)) s.choices.now)) in
    bits_clear (rules_in s) s.choices.now (length xs) s.selected within c.loop-i.word c.loop-i.invariant c.option_of.result read c.if-is_none.ensures ∙ more

pub returns : goal.returns
returns c =
    let s = c.args.self in
    let first : iter_rest (zip_first (enumerate_source c.into_iter-i-iterator.result)) ≡ c.rules.result.now = cc in
    let second : iter_rest (zip_second (enumerate_source c.into_iter-i-iterator.result)) ≡ s.choices.now = cc in
    let start : enumerate_count c.into_iter-i-iterator.result ≡ 0 = cc in
    c.loop-i.invariant ∙ ap (given_bits (rules_in s)) (numbers_end (rules_in s) c.rules.result.now c.rules.ensures s.choices.now s.selected c.loop-i.yielded _ c.loop-i.i-iterator c.next.new.self c.next.result first second start c.loop-i.yielded_by c.next.ensures.steps c.in-None.is)
