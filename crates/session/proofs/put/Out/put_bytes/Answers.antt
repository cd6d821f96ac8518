-- `Out::put_bytes` meets its contract: the bytes are copied into the middle of the buffer. Assumes nothing.
use Prim.Native.Nat.{◌+◌, ◌-◌}
use mathlib.Core.Path.{◌≡◌, refl, ap, ◌∙◌}
use mathlib.Core.List.{◌++◌}
use native.Mathlib.Omega.{arith}
use lib.ListN.{length, take, drop}
use lib.Seq.{sets, length-sets}
use Rattle.session.proofs.Putting.{put_part}
use Rattle.session.proofs.put.Out.put_bytes.Goals as goal

pub returns : goal.returns
returns c =
    let old = c.args.self.now.bytes.now in
    let at = c.args.self.now.at in
    let s = c.args.s.now in
    let copied : take at old ++ (s ++ drop (at + length s - at) (drop at old)) ≡ sets old at s = put_part old s at (at + length s - at) (omega arith) c.requires in
    rw c.copy_from_slice.ensures.after (record {
      same_reference = refl;
      size = ap length copied ∙ length-sets old at s;
      put = record { moved = refl; holds = copied };
    })
