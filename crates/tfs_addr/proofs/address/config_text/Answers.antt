-- The address is the module part followed by the resource.
use Rattle.std.proofs.Common.{◌≡◌, ◌≢◌, ℕ, List, ◌++◌, length, ap, ◌∙◌, arith}
use Rattle.std.specs.Prelude.{string_bytes}
use Rattle.std.proofs.lemmas.Bool.Decides.{nat_tests}
use Rattle.tfs_addr.specs.Address.{module_part}
use Rattle.tfs_addr.proofs.AddressLemmas.{module_part-root, module_part-inner, configuration_address-some}
use Rattle.tfs_addr.proofs.address.config_text.Goals as goal
use Rattle.tfs_addr.proofs.address.config_text.Goals.{then-not-is_empty+in_ok-push, else-not-is_empty}

pub returns-clause-value : goal.returns-clause-value
returns-clause-value c =
    let path = c.args.«module».now in
    let bare = string_bytes c.in_ok-text.text in
    let front : string_bytes c.if-not-is_empty.text ≡ module_part path bare =
    elim c.if-not-is_empty.branch [
      | then-not-is_empty+in_ok-push w ↦
          let some : length path ≢ 0 = grind (arith, nat_tests) in
          ap string_bytes w.text-is ∙ w.in_ok-push.ensures.bytes
          ∙ ap (λ (t : List ℕ). bare ++ t) (w.in_ok-push.ensures.ascii (omega arith)) ∙ module_part-inner path bare some
      | else-not-is_empty w ↦
          let none : length path ≡ 0 = grind (arith, nat_tests) in
          ap string_bytes w.text-is ∙ module_part-root path bare none c.in_ok-text.ensures.ok
    ] in
    configuration_address-some path c.args.mode c.args.kind.now c.args.name.now bare
    (string_bytes c.if-not-is_empty.text) (string_bytes c.push_resource.new.text) c.in_ok-text.ensures.value front c.in_ok-push_resource.ensures
