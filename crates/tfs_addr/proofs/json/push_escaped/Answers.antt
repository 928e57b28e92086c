-- Each character is shown by its escape, its code, or itself.
use Rattle.std.proofs.Common.{[], ◌∷◌, ◌/◌, ◌%◌, refl, arith}
use Rattle.std.specs.Char.{digit_char}
use Rattle.tfs_addr.proofs.JsonLemmas.{shown-quote, shown-backslash, shown-backspace, shown-form_feed, shown-line_feed, shown-carriage_return, shown-tab, shown-code, shown-ascii, shown-itself, shown-pushed, shown-appended}
use Rattle.tfs_addr.proofs.json.push_escaped.Goals as goal

pub returns-in-34 : goal.returns-in-34
returns-in-34 c =
    shown-pushed c.push_str.result _ _ _ (92 ∷ 34 ∷ []) c.push_str.ensures.bytes
    (shown-ascii _ 34 (92 ∷ 34 ∷ []) c.in-34.is (omega arith) shown-quote)

pub returns-in-92 : goal.returns-in-92
returns-in-92 c =
    shown-pushed c.push_str-in-92.result _ _ _ (92 ∷ 92 ∷ []) c.push_str-in-92.ensures.bytes
    (shown-ascii _ 92 (92 ∷ 92 ∷ []) c.in-92.is (omega arith) shown-backslash)

pub returns-in-8 : goal.returns-in-8
returns-in-8 c =
    shown-pushed c.push_str-in-8.result _ _ _ (92 ∷ 98 ∷ []) c.push_str-in-8.ensures.bytes
    (shown-ascii _ 8 (92 ∷ 98 ∷ []) c.in-8.is (omega arith) shown-backspace)

pub returns-in-12 : goal.returns-in-12
returns-in-12 c =
    shown-pushed c.push_str-in-12.result _ _ _ (92 ∷ 102 ∷ []) c.push_str-in-12.ensures.bytes
    (shown-ascii _ 12 (92 ∷ 102 ∷ []) c.in-12.is (omega arith) shown-form_feed)

pub returns-in-10 : goal.returns-in-10
returns-in-10 c =
    shown-pushed c.push_str-in-10.result _ _ _ (92 ∷ 110 ∷ []) c.push_str-in-10.ensures.bytes
    (shown-ascii _ 10 (92 ∷ 110 ∷ []) c.in-10.is (omega arith) shown-line_feed)

pub returns-in-13 : goal.returns-in-13
returns-in-13 c =
    shown-pushed c.push_str-in-13.result _ _ _ (92 ∷ 114 ∷ []) c.push_str-in-13.ensures.bytes
    (shown-ascii _ 13 (92 ∷ 114 ∷ []) c.in-13.is (omega arith) shown-carriage_return)

pub returns-in-9 : goal.returns-in-9
returns-in-9 c =
    shown-pushed c.push_str-in-9.result _ _ _ (92 ∷ 116 ∷ []) c.push_str-in-9.ensures.bytes
    (shown-ascii _ 9 (92 ∷ 116 ∷ []) c.in-9.is (omega arith) shown-tab)

pub returns-in_default : goal.returns-in_default
returns-in_default c =
    let shown = 92 ∷ 117 ∷ 48 ∷ 48 ∷ digit_char (c.args.c / 16) ∷ digit_char (c.args.c % 16) ∷ [] in
    shown-appended c.push_code.result _ _ _ shown c.push_code.ensures
    (shown-ascii c.args.c c.args.c shown refl (omega arith)
    (shown-code _ c.if-c-lt32.true (λ e. omega arith) (λ e. omega arith) (λ e. omega arith) (λ e. omega arith) (λ e. omega arith)))

pub returns-in_default-2 : goal.returns-in_default-2
returns-in_default-2 c =
    shown-pushed c.push.result _ _ _ _ c.push.ensures.bytes (shown-itself _ (omega arith) (λ e. omega arith) (λ e. omega arith))
