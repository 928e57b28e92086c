-- One more text and its end are appended.
use Rattle.std.proofs.Common.{◌≡◌, ◌+◌, ◌++◌, ◌∷◌, ◌∙◌, [], ℕ, List, Some, length, arith, sym, ap, length-append}
use Rattle.tfs_state.specs.Dependency.{address_of}
use Rattle.tfs_index.specs.Listing.{addresses_from}
use Rattle.tfs_index.proofs.ListingLemmas.{ends_more, text_more}
use Rattle.tfs_index.proofs.listing.Listing.add.Goals as goal

pub returns-clause-listing : goal.returns-clause-listing
returns-clause-listing c =
    let d = c.args.doc.now in
    let ends = c.args.self.now.ends.items in
    let place : c.len.result ≡ length ends = omega (arith, c.len.ensures) in
    let here : address_of d (length ends) ≡ Some (c.as_bytes.result.now ++ c.as_bytes-2.result.now) =
    ap (address_of d) (sym place) ∙ c.address.ensures.value
    ∙ ap Some (sym c.parts.ensures.value ∙ ap (λ (t : List ℕ). t ++ c.parts.result.1.now) (sym c.as_bytes.ensures.value)
    ∙ ap (λ (t : List ℕ). c.as_bytes.result.now ++ t) (sym c.as_bytes-2.ensures.value)) in
    let text : c.push_escaped-2.new.out.items ≡ addresses_from d 0 (length ends + 1) =
    text_more d (length ends) c.args.self.now.text.items c.extend_from_slice.new.self.items c.push_escaped.new.out.items c.push_escaped-2.new.out.items
    c.as_bytes.result.now c.as_bytes-2.result.now c.requires.listing.text here c.in_ok-extend_from_slice.ensures.items
    c.in_ok-push_escaped.ensures c.in_ok-push_escaped-2.ensures in
    let long : length c.push.new.self.items ≡ length ends + 1 =
    ap length c.in_ok-push.ensures.items ∙ length-append ends (c.len-2.result ∷ []) in
    let count : length c.push_escaped-2.new.out.items ≡ length (addresses_from d 0 (length ends + 1)) = ap length text in
    let size : c.len-2.result ≡ length (addresses_from d 0 (length ends + 1)) = omega (arith, c.len-2.ensures, count) in
    record {
      within = omega (arith, long, c.requires.within);
      text = text ∙ ap (addresses_from d 0) (sym long);
      ends = ends_more d ends c.push.new.self.items c.len-2.result c.in_ok-push.ensures.items c.requires.listing.ends size;
    }
