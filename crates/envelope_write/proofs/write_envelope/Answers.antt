-- `envelope_write::write_envelope` meets its contract: where no check is met there is room for each part, and they are written one behind the other. Assumes nothing.
use Rattle.std.specs.Prelude.{Err}
use mathlib.Core.Path.{◌≡◌, refl, sym, ap, ◌∙◌}
use mathlib.Core.List.{◌++◌, append_assoc}
use native.Mathlib.Omega.{arith}
use lib.ListN.{length, length-append}
use Rattle.refusals.specs.declared.Refusal.TheVariants.{BadTagLength, NoRoom}
use Rattle.decimal.specs.Buffer.{written_at}
use Rattle.envelope.specs.Layout.{header, envelope}
use Rattle.envelope.proofs.Layouts.{envelope-length}
use Rattle.envelope_write.specs.Checks.{ToWrite}
use Rattle.envelope_write.specs.Write.{write_check, write_number, write_answer, write_buffer}
use Rattle.envelope_write.proofs.WriteSteps.{written-behind, number-7, number-8, number-0}
use Rattle.envelope_write.proofs.Writing.{range-kept, refused, done}
use Rattle.envelope_write.proofs.write_envelope.Goals as goal

pub returns-in_err-h : goal.returns-in_err-h
unfolding write_answer write_buffer write_number
returns-in_err-h c =
    let e : c.from_residual.result ≡ Err c.in_err-h.field-0.0 = grind arith in
    refused _ _ _ c.in_err-h.field-0.0 (range-kept _ _ _ _ c.in_err-h.field-0.0 _ c.in_err-h.ensures) e

pub returns-then-tag-tag_len : goal.returns-then-tag-tag_len
unfolding write_answer write_buffer
returns-then-tag-tag_len c =
    let a = c.args in
    let q = c.in_ok-h.ensures in
    let w : ToWrite a.letter a.group (length a.metadata.now) (length a.cryptogram.now) = simp (q.0, q.1, q.2, q.3) at c.in_ok-h.h.to_write in
    refused _ _ _ BadTagLength {r = Err BadTagLength} (sym (number-7 _ _ _ _ _ _ w (λ e. c.if-tag-tag_len.true (e ∙ sym c.tag_len.ensures)))) refl

pub returns-then-out-len : goal.returns-then-out-len
unfolding write_answer write_buffer
returns-then-out-len c =
    let a = c.args in
    let q = c.in_ok-h.ensures in
    let w : ToWrite a.letter a.group (length a.metadata.now) (length a.cryptogram.now) = simp (q.0, q.1, q.2, q.3) at c.in_ok-h.h.to_write in
    let n : c.len.result ≡ length (header a.letter a.group (length a.metadata.now) (length a.cryptogram.now)) = simp (q.0, q.1, q.2, q.3) at c.len.ensures in
    refused _ _ _ NoRoom {r = Err NoRoom} (sym (number-8 _ _ _ _ _ _ w (c.if-tag-tag_len.false ∙ c.tag_len.ensures) _ n c.if-out-len.true)) refl

pub returns : goal.returns
unfolding write_answer write_buffer envelope
returns c =
    let a = c.args in
    let out = a.out.now in
    let metadata = a.metadata.now in
    let cryptogram = a.cryptogram.now in
    let tag = a.tag.now in
    let head = header a.letter a.group (length metadata) (length cryptogram) in
    let q = c.in_ok-h.ensures in
    let w : ToWrite a.letter a.group (length metadata) (length cryptogram) = simp (q.0, q.1, q.2, q.3) at c.in_ok-h.h.to_write in
    let n : c.len.result ≡ length head = simp (q.0, q.1, q.2, q.3) at c.len.ensures in
    let p : (c.put-p.result ≡ length head) × (c.put-p.new.out ≡ written_at out 0 head) = simp (q.0, q.1, q.2, q.3) at c.put-p.ensures in
    let n₁ = length-append head metadata in
    let n₂ = length-append (head ++ metadata) cryptogram in
    let w₁ = written-behind out head metadata _ (omega arith) (omega arith) p.1 c.put.ensures.1 in
    let w₂ = written-behind out (head ++ metadata) cryptogram _ (omega arith) (omega arith) w₁ c.put-2.ensures.1 in
    let w₃ = written-behind out ((head ++ metadata) ++ cryptogram) tag _ (omega arith) (omega arith) w₂ c.put-3.ensures.1 in
    done (write_check a.letter a.group metadata cryptogram tag out) (envelope a.letter a.group metadata cryptogram tag) out _ _
    (sym (number-0 _ _ _ _ _ _ w (c.if-tag-tag_len.false ∙ c.tag_len.ensures) _ n c.if-out-len.false))
    (omega (arith, envelope-length a.letter a.group metadata cryptogram tag))
    (w₃ ∙ ap (written_at out 0) (append_assoc (head ++ metadata) cryptogram tag ∙ append_assoc head metadata (cryptogram ++ tag)))
