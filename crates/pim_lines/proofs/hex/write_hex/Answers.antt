use Rattle.std.proofs.Common.{◌∙◌, subst}
use Rattle.std.specs.Io.KnownBytes.{Appends}
use Rattle.pim_device.specs.Device.{AppendsFront}
use Rattle.pim_lines.specs.Hex.{hex_of}
use Rattle.pim_lines.proofs.Written.{item_written, item_stopped, stopped}
use Rattle.pim_lines.proofs.hex.write_hex.Goals as goal

pub returns-in_err-write_all-clause-bytes : goal.returns-in_err-write_all-clause-bytes
returns-in_err-write_all-clause-bytes g c =
    stopped _ _ c.from_residual.result _ c.from_residual.ensures.0
    (item_stopped hex_of c.args.bytes.now c.loop-byte.byte-index _ _ _ _ _ c.loop-byte-test.true c.loop-byte.invariant.0
    (subst (λ l. AppendsFront (g.W.Drain.contents c.loop-byte.writer) (g.W.Drain.contents c.write_all.new.drain) l) c.hex_of.ensures c.in_err-write_all.ensures.bytes))

pub loop-byte-preserved : goal.loop-byte-preserved
loop-byte-preserved g c = (
  item_written hex_of c.args.bytes.now c.loop-byte.byte-index _ _ _ _ _ c.loop-byte-test.true c.loop-byte.invariant.0
      (subst (λ l. Appends (g.W.Drain.contents c.loop-byte.writer) (g.W.Drain.contents c.write_all.new.drain) l) c.hex_of.ensures c.in_ok-write_all.ensures.bytes),
  c.in_ok-write_all.ensures.count ∙ c.loop-byte.invariant.1,
)
