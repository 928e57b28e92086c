-- The refusal that the decoder keeps is the one that it returns.
use Rattle.std.proofs.Common.{length, refl, sym, ◌∙◌, ◌==◌, ap, subst, Some, Ok}
use Rattle.tfs_framing.specs.Decoder.{Comes, DecoderValue, HasNoRefusal}
use Rattle.tfs_framing.specs.Framing.{framing_refusal}
use Rattle.tfs_framing.specs.declared.framing.Received.TheVariants.{Refused}
use Rattle.tfs_framing.proofs.decoder.RequestDecoder.next.Goals as goal

pub invariant_of-self-in-Ok-Refused : goal.invariant_of-self-in-Ok-Refused
invariant_of-self-in-Ok-Refused c =
    let bytes = c.self.inside.fed.bytes in
    let told = subst (Comes bytes c.step.new.unused.items c.step.new.unused.spare c.step.new.progress) c.in-Ok-Refused.field-0-is
    (c.in-Ok-Refused.ensures.ok bytes c.self.invariant.0) in
    let none = c.is_empty-is_empty.ensures.value ∙ ap (λ (v : DecoderValue). length v.bytes == 0) (sym c.self.view_is) in
    (record { is_empty = none; reason = subst (framing_refusal bytes) (sym (c.copy_of.ensures bytes told)) told }, refl)

pub returns-in-Ok-Refused-clause-over : goal.returns-in-Ok-Refused-clause-over
returns-in-Ok-Refused-clause-over c =
    let bytes = c.self.inside.fed.bytes in
    let told = subst (Comes bytes c.step.new.unused.items c.step.new.unused.spare c.step.new.progress) c.in-Ok-Refused.field-0-is
    (c.in-Ok-Refused.ensures.ok bytes c.self.invariant.0) in
    ap (λ r. Some (Ok (Refused r))) (c.copy_of.ensures bytes told)

pub returns-in-Err-clause-memory : goal.returns-in-Err-clause-memory
returns-in-Err-clause-memory c =
    subst (λ (v : DecoderValue). HasNoRefusal v.bytes) c.self.view_is (c.in-Err.ensures.memory c.self.inside.fed.bytes c.self.invariant.0)
