-- Each case is one fault, in the order of the checks.
use Rattle.std.proofs.Common.{◌∙◌, sym, arith, length, map, Bor, List, ℕ, Some, None}
use Rattle.std.proofs.lemmas.Bool.{eqb-true, eqb-false}
use Rattle.std.proofs.Math.ListN.{length-map}
use Rattle.tfs_index.proofs.ImpactLemmas.{no_text, many_texts, few_found}
use Rattle.tfs_index.proofs.names.first_fault.Goals as goal

pub returns-then-is_empty : goal.returns-then-is_empty
returns-then-is_empty c =
    let texts : List (List ℕ) = map (λ (t : Bor (List ℕ)). t.now) c.args.texts.now in
    let long = length-map c.args.texts.now (λ (t : Bor (List ℕ)). t.now) in
    sym (no_text c.args.doc.now texts (long ∙ eqb-true (length c.args.texts.now) 0 (sym c.is_empty.ensures ∙ c.if-is_empty.true)))

pub returns-then-texts-gt-MAX_TEXTS : goal.returns-then-texts-gt-MAX_TEXTS
returns-then-texts-gt-MAX_TEXTS c =
    let texts : List (List ℕ) = map (λ (t : Bor (List ℕ)). t.now) c.args.texts.now in
    let long = length-map c.args.texts.now (λ (t : Bor (List ℕ)). t.now) in
    sym (many_texts c.args.doc.now texts (omega (arith, long)))

pub returns-in-Some : goal.returns-in-Some
returns-in-Some c =
    few_found c.args.doc.now c.args.texts.now (Some c.in-Some.place) (eqb-false (length c.args.texts.now) 0 (sym c.is_empty.ensures ∙ c.if-is_empty.false))
    c.if-texts-gt-MAX_TEXTS.false c.in-Some.ensures

pub returns-in-None : goal.returns-in-None
returns-in-None c =
    few_found c.args.doc.now c.args.texts.now None (eqb-false (length c.args.texts.now) 0 (sym c.is_empty.ensures ∙ c.if-is_empty.false))
    c.if-texts-gt-MAX_TEXTS.false c.in-None.ensures
