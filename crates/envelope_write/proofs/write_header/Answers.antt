-- `envelope_write::write_header` meets its contract: the header of what is handed in is written where there is room for it. Assumes nothing.
use Rattle.std.specs.Prelude.{Err}
use mathlib.Core.Path.{◌≡◌, refl, sym}
use native.Mathlib.Omega.{arith}
use lib.ListN.{length}
use Rattle.refusals.specs.declared.Refusal.TheVariants.{NoRoom}
use Rattle.decimal.specs.Buffer.{written_at}
use Rattle.envelope.specs.Layout.{header}
use Rattle.envelope_write.specs.Checks.{ToWrite}
use Rattle.envelope_write.specs.Write.{header_number, header_answer, header_buffer}
use Rattle.envelope_write.proofs.WriteSteps.{header-8, header-0}
use Rattle.envelope_write.proofs.Writing.{range-kept, refused, done}
use Rattle.envelope_write.proofs.write_header.Goals as goal

pub returns-in_err-h : goal.returns-in_err-h
unfolding header_answer header_buffer header_number
returns-in_err-h c =
    let e : c.from_residual.result ≡ Err c.in_err-h.field-0.0 = grind arith in
    refused _ _ _ c.in_err-h.field-0.0 (range-kept _ _ _ _ c.in_err-h.field-0.0 _ c.in_err-h.ensures) e

pub returns-then-out-len : goal.returns-then-out-len
unfolding header_answer header_buffer
returns-then-out-len c =
    let a = c.args in
    let q = c.in_ok-h.ensures in
    let w : ToWrite a.letter a.group a.alen a.mlen = simp (q.0, q.1, q.2, q.3) at c.in_ok-h.h.to_write in
    let n : c.len.result ≡ length (header a.letter a.group a.alen a.mlen) = simp (q.0, q.1, q.2, q.3) at c.len.ensures in
    refused _ _ _ NoRoom {r = Err NoRoom} (sym (header-8 _ _ _ _ _ w _ n c.if-out-len.true)) refl

pub returns : goal.returns
unfolding header_answer header_buffer
returns c =
    let a = c.args in
    let q = c.in_ok-h.ensures in
    let w : ToWrite a.letter a.group a.alen a.mlen = simp (q.0, q.1, q.2, q.3) at c.in_ok-h.h.to_write in
    let n : c.len.result ≡ length (header a.letter a.group a.alen a.mlen) = simp (q.0, q.1, q.2, q.3) at c.len.ensures in
    let p : (c.put.result ≡ length (header a.letter a.group a.alen a.mlen)) × (c.put.new.out ≡ written_at a.out.now 0 (header a.letter a.group a.alen a.mlen)) = simp (q.0, q.1, q.2, q.3) at c.put.ensures in
    done (header_number a.letter a.group a.alen a.mlen (length a.out.now)) (header a.letter a.group a.alen a.mlen) a.out.now _ _
    (sym (header-0 _ _ _ _ _ w _ n c.if-out-len.false)) p.0 p.1
