-- A line that is read chunk by chunk.
use Rattle.std.proofs.Common.{◌≡◌, ℕ, ◌+◌, ◌-◌, ◌^◌, ◌<◌, min, arith, Bool, true, false, cond, eqb, List, [], ◌∷◌, ◌++◌, ◌||◌, Some, None, Option, sym, refl, ap, subst, ◌∙◌, append-nil, IfSome, IsNone, Ok, Err, Result}
use Rattle.std.proofs.lemmas.Bool.{cond-false, or_parts, false≢true, ne_eqb}
use Rattle.std.specs.List.{list_any}
use Rattle.std.specs.Io.BufRead.{drop_through}
use Rattle.std.specs.Io.KnownBytes.{Keeps, IsAtEnd, prepend_known}
use Rattle.std.specs.Option.{option_map_or}
use Rattle.std.specs.declared.io.Error.{Error}
use Rattle.lines.specs.declared.line.Line.{Line}
use Rattle.lines.specs.declared.source.Source.{Source}
use Rattle.lines.specs.declared.input.Lines.{Lines}
use Rattle.lines.specs.Line.{text_of, extended, begun}
use Rattle.lines.specs.Source.{line_feed, is_feed, known_left, grown}
use Rattle.lines.specs.Lines.{unread, CutsLine, Finishes, TellsInTurn}

-- of the bytes that were known at first these are left, and the text with those is the text at first with all; no byte
-- was read where the line is not begun, or where there was none
pub record Along (first left : List ℕ) (text_first text : Option (List ℕ)) : Type 0 where
  pub text_at_end : grown text left ≡ grown text_first first
  pub rest : drop_through line_feed left ≡ drop_through line_feed first
  pub none_read : begun text ≡ false → left ≡ first
  pub none_left : first ≡ [] → (left ≡ []) × (text ≡ text_first)

-- the same, where bytes are known
abbrev pub OnTheWay : Option (List ℕ) → Option (List ℕ) → Option (List ℕ) → Option (List ℕ) → Type 0
OnTheWay None known text_first text = Unit {0}
OnTheWay (Some first) known text_first text = (left : List ℕ) × (known ≡ Some left) × Along first left text_first text

-- a line with one byte more is begun
either_begun : (kept : Bool) (bytes : List ℕ) (byte : ℕ) → begun (cond kept (Some (bytes ++ byte ∷ [])) None) ≡ true
either_begun true [] byte = refl
either_begun true (first ∷ others) byte = refl
either_begun false bytes byte = refl

extended_begun : (text : Option (List ℕ)) (byte : ℕ) → begun (extended text byte) ≡ true
extended_begun None byte = refl
extended_begun (Some bytes) byte = either_begun _ bytes byte

-- two ways that agree where the test is false
same_else : {X : Type 0} (b : Bool) (x u v : X) → (b ≡ false → u ≡ v) → cond b x u ≡ cond b x v
same_else true x u v same = refl
same_else false x u v same = same refl

cut_else : (b : Bool) (xs u v ys : List ℕ) → (b ≡ false → u ≡ v ++ ys) → cond b (xs ++ ys) u ≡ cond b xs v ++ ys
cut_else true xs u v ys same = refl
cut_else false xs u v ys same = same refl

begun_either : (b : Bool) (text other : Option (List ℕ)) → begun text ≡ true → begun other ≡ true → begun (cond b text other) ≡ true
begun_either true text other one two = one
begun_either false text other one two = two

or_second : (a b : Bool) → (a || b) ≡ true → a ≡ false → b ≡ true
or_second true b some none = absurd (false≢true (sym none))
or_second false b some none = some

-- without a line feed a text grows by all bytes
grown_on : (text : Option (List ℕ)) (xs ys : List ℕ) → list_any is_feed xs ≡ false → grown text (xs ++ ys) ≡ grown (grown text xs) ys
grown_on text [] ys none = refl
grown_on text (x ∷ xs) ys none =
    let apart = or_parts (eqb x line_feed) (list_any is_feed xs) none in
    cond-false (eqb x line_feed) text (grown (extended text x) (xs ++ ys)) apart.0
    ∙ grown_on (extended text x) xs ys apart.1
    ∙ ap (λ t. grown t ys) (sym (cond-false (eqb x line_feed) text (grown (extended text x) xs) apart.0))

-- with one, by those before it
grown_cut : (text : Option (List ℕ)) (xs ys : List ℕ) → list_any is_feed xs ≡ true → grown text (xs ++ ys) ≡ grown text xs
grown_cut text [] ys some = absurd (false≢true some)
grown_cut text (x ∷ xs) ys some =
    same_else (eqb x line_feed) text _ _ (λ apart. grown_cut (extended text x) xs ys (or_second (eqb x line_feed) (list_any is_feed xs) some apart))

drop_on : (xs ys : List ℕ) → list_any is_feed xs ≡ false → drop_through line_feed (xs ++ ys) ≡ drop_through line_feed ys
drop_on [] ys none = refl
drop_on (x ∷ xs) ys none =
    let apart = or_parts (eqb x line_feed) (list_any is_feed xs) none in
    cond-false (eqb x line_feed) (xs ++ ys) (drop_through line_feed (xs ++ ys)) apart.0 ∙ drop_on xs ys apart.1

drop_cut : (xs ys : List ℕ) → list_any is_feed xs ≡ true → drop_through line_feed (xs ++ ys) ≡ drop_through line_feed xs ++ ys
drop_cut [] ys some = absurd (false≢true some)
drop_cut (x ∷ xs) ys some =
    cut_else (eqb x line_feed) xs _ _ ys (λ apart. drop_cut xs ys (or_second (eqb x line_feed) (list_any is_feed xs) some apart))

pub drop_all : (xs : List ℕ) → list_any is_feed xs ≡ false → drop_through line_feed xs ≡ []
drop_all xs none = ap (drop_through line_feed) (sym (append-nil xs)) ∙ drop_on xs [] none

begun_stays : (text : Option (List ℕ)) (xs : List ℕ) → begun text ≡ true → begun (grown text xs) ≡ true
begun_stays text [] was = was
begun_stays text (x ∷ xs) was = begun_either (eqb x line_feed) text _ was (begun_stays (extended text x) xs (extended_begun text x))

-- a text that is not begun grew by no byte
grown_none : (text : Option (List ℕ)) (xs : List ℕ) → list_any is_feed xs ≡ false → begun (grown text xs) ≡ false → (xs ≡ []) × (begun text ≡ false)
grown_none text [] none not = (refl, not)
grown_none text (x ∷ xs) none not =
    let apart = or_parts (eqb x line_feed) (list_any is_feed xs) none in
    let grows = cond-false (eqb x line_feed) text (grown (extended text x) xs) apart.0 in
    absurd (false≢true (sym not ∙ ap begun grows ∙ begun_stays (extended text x) xs (extended_begun text x)))

-- a list whose test holds of an element has one
some_first : (xs ys : List ℕ) → list_any is_feed xs ≡ true → (xs ++ ys ≡ []) → ⊥
some_first [] ys some none = false≢true some
some_first (x ∷ xs) ys some none = absurd (let e = none in cc)

-- where turns are left, what is known stays
open_turn : {X : Type 0} (turns : ℕ) (x y : X) → 0 < turns → cond (eqb turns 0) x y ≡ y
open_turn turns x y some = cond-false (eqb turns 0) x y (ne_eqb turns 0 (λ none. absurd (omega (arith, none, some))))

-- a turn is taken, and the bytes and the reader stay
pub turn_taken : (first : Option (List ℕ)) (text_first text : Option (List ℕ)) (turns : ℕ) (shown taken : List ℕ) (rest after : Option (List ℕ)) → 0 < turns → taken ≡ shown → after ≡ rest → OnTheWay first (cond (eqb turns 0) None (prepend_known shown rest)) text_first text → OnTheWay first (prepend_known taken after) text_first text
turn_taken first text_first text turns shown taken rest after some same rests way =
    subst (λ k. OnTheWay first k text_first text) (open_turn turns None (prepend_known shown rest) some ∙ (let e = same in let f = rests in cc)) way

-- of no bytes none are held, and none left
no_bytes : (first shown ys left : List ℕ) (text_first text text_after : Option (List ℕ)) → left ≡ shown ++ ys → (left ≡ []) × (text ≡ text_first) → text_after ≡ grown text shown → (ys ≡ []) × (text_after ≡ text_first)
no_bytes first [] ys left text_first text text_after same none grows = (sym same ∙ none.0, grows ∙ none.1)
no_bytes first (x ∷ xs) ys left text_first text text_after same none grows = absurd (let e : x ∷ (xs ++ ys) ≡ [] = sym same ∙ none.0 in cc)

-- what a line that is cut off is, and what is then left
abbrev pub Cut : Option (List ℕ) → Option (List ℕ) → Option (List ℕ) → Option (List ℕ) → Type 0
Cut unread text_first text known =
    IfSome unread (λ bytes. (text ≡ grown text_first bytes) × (known ≡ Some (drop_through line_feed bytes)) × (bytes ≡ [] → begun text_first ≡ true))

-- a line feed stands among the bytes that are held
pub cut_at_feed : (unread text_first text text_after : Option (List ℕ)) (shown left : List ℕ) (rest : Option (List ℕ)) (turns : ℕ) → OnTheWay unread (prepend_known shown rest) text_first text → list_any is_feed shown ≡ true → text_after ≡ grown text shown → left ≡ drop_through line_feed shown → 0 < turns → Cut unread text_first text_after (cond (eqb turns 0) None (prepend_known left rest))
cut_at_feed None text_first text text_after shown left rest turns way some grows drops more = tt
cut_at_feed (Some first) text_first text text_after shown left None turns way some grows drops more = absurd (let e = way.1 in cc)
cut_at_feed (Some first) text_first text text_after shown left (Some ys) turns way some grows drops more =
    let same : way.0 ≡ shown ++ ys = (let e = way.1 in cc) in
    let on = way.2 in (
      grows ∙ sym (grown_cut text shown ys some) ∙ ap (grown text) (sym same) ∙ on.text_at_end,
      open_turn turns None (Some (left ++ ys)) more ∙ ap (λ l. Some (l ++ ys)) drops ∙ ap Some (sym (drop_cut shown ys some)) ∙ ap (λ l. Some (drop_through line_feed l)) (sym same) ∙ ap Some on.rest,
      λ none. absurd (some_first shown ys some (sym same ∙ (on.none_left none).0)),
    )

-- none does, and a chunk is read
pub chunk_read : (unread text_first text text_after : Option (List ℕ)) (shown next : List ℕ) (rest after : Option (List ℕ)) (turns : ℕ) → OnTheWay unread (prepend_known shown rest) text_first text → list_any is_feed shown ≡ false → text_after ≡ grown text shown → Keeps rest (prepend_known next after) → 0 < turns → OnTheWay unread (cond (eqb turns 0) None (prepend_known next after)) text_first text_after
chunk_read None text_first text text_after shown next rest after turns way none grows keeps more = tt
chunk_read (Some first) text_first text text_after shown next None after turns way none grows keeps more = absurd (let e = way.1 in cc)
chunk_read (Some first) text_first text text_after shown next (Some ys) None turns way none grows keeps more = absurd keeps
chunk_read (Some first) text_first text text_after shown next (Some ys) (Some zs) turns way none grows keeps more =
    let same : way.0 ≡ shown ++ ys = (let e = way.1 in cc) in
    let on = way.2 in
    let empty = grown_none text shown none in (
      ys,
      open_turn turns None (Some (next ++ zs)) more ∙ ap Some keeps,
      record {
        text_at_end = ap (λ t. grown t ys) grows ∙ sym (grown_on text shown ys none) ∙ ap (grown text) (sym same) ∙ on.text_at_end;
        rest = sym (drop_on shown ys none) ∙ ap (drop_through line_feed) (sym same) ∙ on.rest;
        none_read = λ not.
            let e = empty (ap begun (sym grows) ∙ not) in
            sym (ap (λ l. l ++ ys) e.0) ∙ sym same ∙ on.none_read e.1;
        none_left = λ nothing. no_bytes first shown ys way.0 text_first text text_after same (on.none_left nothing) grows;
      },
    )

-- what is read at the reader's end
abbrev pub Ended : Option (List ℕ) → Option (List ℕ) → Option (List ℕ) → Type 0
Ended unread text_first text = IfSome unread (λ first. Along first [] text_first text)

-- the reader ends
pub reader_ends : (unread text_first text text_after : Option (List ℕ)) (shown : List ℕ) (rest : Option (List ℕ)) → OnTheWay unread (prepend_known shown rest) text_first text → list_any is_feed shown ≡ false → text_after ≡ grown text shown → IsAtEnd rest → Ended unread text_first text_after
reader_ends None text_first text text_after shown rest way none grows end = tt
reader_ends (Some first) text_first text text_after shown None way none grows end = absurd (let e = way.1 in cc)
reader_ends (Some first) text_first text text_after shown (Some ys) way none grows end =
    let on = chunk_read (Some first) text_first text text_after shown [] (Some ys) (Some []) 1 way none grows (sym end) (omega arith) in
    subst (λ l. Along first l text_first text_after) (let e = on.1 in let f = end in cc) on.2

-- it is given up
pub given_up : (unread text_first text : Option (List ℕ)) (turns : ℕ) (known : Option (List ℕ)) → turns ≡ 0 → OnTheWay unread (cond (eqb turns 0) None known) text_first text → Ended unread text_first text
given_up None text_first text turns known none way = tt
given_up (Some first) text_first text turns known none way = absurd (let e : None ≡ Some way.0 = ap (λ n. cond (eqb n 0) None known) (sym none) ∙ way.1 in cc)

none_left_at_end : (known text_first text : Option (List ℕ)) → Ended known text_first text → begun text ≡ false → IsAtEnd known
none_left_at_end None text_first text ended not = tt
none_left_at_end (Some first) text_first text ended not = sym (ended.none_read not)

-- an ended reader has nothing left
unread_none : {R : Type 0} (remaining : R → Option (List ℕ)) (source : Option (Source R)) → IsNone source → option_map_or (known_left remaining) source (Some []) ≡ Some []
unread_none remaining None none = refl
unread_none remaining (Some source) none = absurd (let e = none in cc)

last_cut : {R : Type 0} (known text_first text : Option (List ℕ)) (line : Line) (after : Lines R) (remaining : R → Option (List ℕ)) → Ended known text_first text → begun text ≡ true → text_of line ≡ text → IsNone after.source → CutsLine text_first known line (unread remaining after)
last_cut None text_first text line after remaining ended some same none = tt
last_cut (Some first) text_first text line after remaining ended some same none = (
  same ∙ ended.text_at_end,
  unread_none remaining after.source none ∙ ap Some ended.rest,
  λ nothing. ap begun (sym (ended.none_left nothing).1) ∙ some,
)

-- the last line comes where it has a byte, and otherwise nothing was left
pub ends_in_turn : {R : Type 0} (remaining : R → Option (List ℕ)) (before now after : Lines R) (result : Option (Result Line Error)) → Ended (unread remaining before) (text_of before.line) (text_of now.line) → now.line.number ≡ before.line.number → Finishes now result after → TellsInTurn remaining before result after
ends_in_turn remaining before now after None ended number end = (
  none_left_at_end (unread remaining before) (text_of before.line) (text_of now.line) ended end.0,
  end.1,
  ap (λ l. l.number) end.2 ∙ number,
)
ends_in_turn remaining before now after (Some (Ok line)) ended number end = (
  ap (λ l. l.number) end.2 ∙ number,
  last_cut (unread remaining before) (text_of before.line) (text_of now.line) line after remaining ended end.0 (ap text_of end.2) end.1,
  end.3 ∙ ap (λ n. min (n + 1) (2 ^ 64 - 1)) number,
  end.4,
)
ends_in_turn remaining before now after (Some (Err error)) ended number end = absurd end
