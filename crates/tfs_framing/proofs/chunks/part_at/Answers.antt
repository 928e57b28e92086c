-- The state of the walk decides what comes next, or else the next chunk line does.
use Rattle.std.proofs.Common.{◌≡◌, ◌++◌, length, inl, inr, sym, ap, subst, arith, ◌∙◌, length-append}
use Rattle.httparse.specs.Grammar.{print_chunk_line}
use Rattle.tfs_framing.specs.Parts.{IsPassed}
use Rattle.tfs_framing.specs.declared.chunks.Ahead.{Ahead}
use Rattle.tfs_framing.specs.declared.chunks.Flaw.TheVariants.{TooLarge, Unreadable}
use Rattle.tfs_framing.proofs.PartLemmas.{behind_line, line_has_bytes}
use Rattle.tfs_framing.proofs.PassedLemmas.{chunk_begins, line_wanted, part_behind, passed_fits, passed_flawed}
use Rattle.tfs_framing.proofs.chunks.part_at.Goals as goal

pub last_behind-requires-clause-some : goal.last_behind-requires-clause-some
last_behind-requires-clause-some c =
    let p = subst (λ (a : Ahead). IsPassed c.requires.0 c.args.count c.requires.1 a c.args.left.now) c.in-Trailer.is c.requires.2 in
    let some = line_has_bytes p.stands.2 p.stands.3.is_line in
    let len = p.stands.3.len_is in
    omega arith

pub last_behind-requires-clause-inside : goal.last_behind-requires-clause-inside
last_behind-requires-clause-inside c =
    let p = subst (λ (a : Ahead). IsPassed c.requires.0 c.args.count c.requires.1 a c.args.left.now) c.in-Trailer.is c.requires.2 in
    let len = p.stands.3.len_is in
    let sizes = ap length p.stands.3.parts ∙ length-append (print_chunk_line p.stands.2) p.stands.3.after in
    omega arith

pub last_behind-requires-clause-last : goal.last_behind-requires-clause-last
last_behind-requires-clause-last c =
    let p = subst (λ (a : Ahead). IsPassed c.requires.0 c.args.count c.requires.1 a c.args.left.now) c.in-Trailer.is c.requires.2 in
    (p.stands.2, p.stands.3, p.stands.4)

pub returns-in_default : goal.returns-in_default
returns-in_default c = λ rest body p total.
    let at = subst (λ (a : Ahead). IsPassed rest c.args.count body a c.args.left.now) c.in-Line.is p in
    let told = rw c.in_default.is at c.in_ok-len.ensures.absent in
    line_wanted rest c.args.count body c.split_at.result.0.now c.args.left.now _ c.split_at.ensures.front at told.0 told.1

pub returns-then-size-total : goal.returns-then-size-total
returns-then-size-total c = λ rest body p total.
    let known = subst (λ (a : Ahead). IsPassed rest c.args.count body a c.args.left.now) c.in-Line.is p in
    let at = rw c.in-Some.is at c.in_ok-len.ensures.found in
    let large = c.if-size-total.true in
    let size = at.1.size_is in
    passed_flawed rest c.args.count body c.args.left.now _ TooLarge known known.stands.0 known.stands.1
    (inr (at.0, at.1.after, at.1.is_line, at.1.parts, omega arith))

pub last_behind-requires-then-size-eq0-clause-some : goal.last_behind-requires-then-size-eq0-clause-some
last_behind-requires-then-size-eq0-clause-some c =
    let at = rw c.in-Some.is at c.in_ok-len.ensures.found in
    let some = line_has_bytes at.0 at.1.is_line in
    let len = at.1.len_is in
    omega arith

pub returns-then-count-eq-MAX_CHUNKS : goal.returns-then-count-eq-MAX_CHUNKS
returns-then-count-eq-MAX_CHUNKS c = λ rest body p total.
    let known = subst (λ (a : Ahead). IsPassed rest c.args.count body a c.args.left.now) c.in-Line.is p in
    let at = rw c.in-Some.is at c.in_ok-len.ensures.found in
    let fits = c.if-size-total.false in
    let some = c.if-size-eq0.false in
    let size = at.1.size_is in
    passed_flawed rest c.args.count body c.args.left.now _ Unreadable known known.stands.0 known.stands.1
    (inr (at.0, at.1.after, at.1.is_line, at.1.parts, (omega arith, inl (omega arith, c.if-count-eq-MAX_CHUNKS.true))))

pub returns : goal.returns
returns c = λ rest body p total.
    let known = subst (λ (a : Ahead). IsPassed rest c.args.count body a c.args.left.now) c.in-Line.is p in
    let at = rw c.in-Some.is at c.in_ok-len.ensures.found in
    let fits = c.if-size-total.false in
    let some = c.if-size-eq0.false in
    let other = c.if-count-eq-MAX_CHUNKS.false in
    let few = (passed_fits rest c.args.count body _ _ p).0 in
    let behind : c.split_at-2.result.1.now ≡ at.1.after = c.split_at-2.ensures.back ∙ behind_line _ _ _ at.0 at.1 in
    let begins = chunk_begins rest c.args.count body c.args.left.now _ _ _ at.0 known at.1 (omega arith) (omega arith) (omega arith) in
    part_behind rest c.args.count body c.args.left.now c.split_at-2.result.1.now _
    (print_chunk_line at.0, at.1.parts ∙ ap (λ t. print_chunk_line at.0 ++ t) (sym behind))
    (c.rest_of_chunk-2.ensures rest c.args.count body (subst (IsPassed rest c.args.count body (Ahead.Bytes c.in-Some.size)) (sym behind) begins))
