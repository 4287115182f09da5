-- From checked certificates to how a search ends.
use Rattle.std.proofs.Common.{◌≡◌, ℕ, true, List, Some, None, sym, refl, ap}
use Rattle.counting.specs.Ways.{Way}
use Rattle.problem.specs.Rules.{Rule}
use Rattle.problem.specs.declared.day.Day.{Day}
use Rattle.network.specs.declared.limit.Limit.{Limit}
use Rattle.search.specs.Outcomes.{TellsWord, kept_price, given_word, given_bits}
use Rattle.search.specs.Searches.{State, Unsettled}
use Rattle.search.specs.Selections.{price}
use Rattle.search.specs.Tests.{every, selects}
use Rattle.search.specs.declared.word.Word.{Word}
use Rattle.search.specs.declared.word.Word.TheVariants as word
use Rattle.search.proofs.Testing.{selects_selection}
use Rattle.certificates.specs.Certificates.{Certificate, enumerated, reached, checked, fresh, counted, smallest}
use Rattle.certificates.proofs.Chains.{chains_smallest}
use Rattle.certificates.proofs.Stepping.{certified, enumeration_ends}
use Rattle.small_books.specs.Ends.{Keeping, Without}

module _ {C : Type 0} (way : Way C) (day : Day) (rules : List Rule) (cs : List Certificate) (good : checked way day rules fresh cs ≡ true) where
  abbrev final : State
  final = reached way day rules fresh cs

  module _ (plan minutes : List ℕ) (chains : List (List Limit)) (kept : final.kept ≡ Some plan) (least : smallest day rules plan minutes chains ≡ true) where
    keeping : (w : Word) → TellsWord rules final w → Keeping way day rules (counted 0 cs) w (way.shown (price way rules plan)).first (way.shown (price way rules plan)).second (given_bits rules plan) minutes
    keeping w tells = record {
      state = final;
      after = certified way day rules cs good;
      plan = plan;
      kept = kept;
      cost = price way rules plan;
      tells = record { word_is = tells; cost_is = ap (kept_price way rules) (sym kept); given_is = ap (given_word rules) (sym kept) };
      shown = refl;
      smallest = chains_smallest day rules plan minutes chains least;
    }

    -- ended, with a plan
    pub proved : every final.settled (enumerated rules) ≡ true
        → Keeping way day rules (counted 0 cs) word.Proved (way.shown (price way rules plan)).first (way.shown (price way rules plan)).second (given_bits rules plan) minutes
    proved ended = keeping word.Proved (enumeration_ends rules final ended, (plan, kept))

    -- running, with a plan
    pub short : (ns : List ℕ) → selects rules ns ≡ true → Unsettled final ns
        → Keeping way day rules (counted 0 cs) word.Short (way.shown (price way rules plan)).first (way.shown (price way rules plan)).second (given_bits rules plan) minutes
    short ns selection unsettled = keeping word.Short ((ns, selects_selection rules ns selection, unsettled), (plan, kept))

  -- ended, without a plan
  pub without : final.kept ≡ None → every final.settled (enumerated rules) ≡ true → Without way day rules (counted 0 cs)
  without none ended = record {
    state = final;
    after = certified way day rules cs good;
    tells = record {
      word_is = (enumeration_ends rules final ended, none);
      cost_is = ap (kept_price way rules) (sym none);
      given_is = ap (given_word rules) (sym none);
    };
  }
