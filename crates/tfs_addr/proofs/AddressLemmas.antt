-- The module part of an address, as the code builds it.
use Rattle.std.proofs.Common.{◌≡◌, ◌≢◌, List, ℕ, [], ◌∷◌, ◌++◌, length, Some, refl, sym, ap, ◌∙◌, arith, codes}
use Rattle.std.specs.Option.{option_map}
use Rattle.tfs_addr.specs.declared.resource.Mode.{Mode}
use Rattle.tfs_addr.specs.Address.{IsStripped, stripped_text, module_part, resource_part, configuration_address}
use Rattle.tfs_addr.proofs.ReadingLemmas.{IsStripped-unique}

-- The text without keys of the root module's path is the module part, because both are empty.
pub module_part-root : (path bare : List ℕ) → length path ≡ 0 → IsStripped path bare → bare ≡ module_part path bare
module_part-root [] bare e h = IsStripped-unique [] bare [] h ([], record { valid = tt; printed = refl }, refl)
module_part-root (b ∷ path) bare e h = absurd (omega arith)

-- The module part of any other module is the path's text without keys and a dot.
pub module_part-inner : (path bare : List ℕ) → length path ≢ 0 → bare ++ codes "." ≡ module_part path bare
module_part-inner [] bare some = absurd (some refl)
module_part-inner (b ∷ path) bare some = refl

-- The parts, one after another, are the configuration address.
pub configuration_address-some : (path : List ℕ) (mode : Mode) (kind name bare front text : List ℕ) → stripped_text path ≡ Some bare
    → front ≡ module_part path bare → text ≡ front ++ resource_part mode kind name
    → configuration_address path mode kind name ≡ Some text
configuration_address-some path mode kind name bare front text e f g =
    ap (option_map (λ b. module_part path b ++ resource_part mode kind name)) e
    ∙ ap Some (ap (λ (t : List ℕ). t ++ resource_part mode kind name) (sym f) ∙ sym g)
