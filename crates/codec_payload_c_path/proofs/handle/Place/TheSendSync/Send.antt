-- A place may move to another thread with what it owns: a box of an object that may move.
use mir.Raw.{raw}
use base.Fraction.{full_share}
use base.Shift.{Keyless}
use denote.Memory.{lone}
use denote.RawPtr.{Ptr, block_ptr, null_ptr}
use denote.Param.Send.{IsSend, part_keyless}
use Rattle.std_heap.proofs.GlobalAllocator.TheSendSync.{the_frees}
use Rattle.std.specs.Prelude.{Option, Some, None}
use Rattle.codec_payload_c_path.specs.Owned.{heap, owns_object}
use Rattle.codec_payload_c_path.specs.declared.object.PathObject.{PathObject}
use Rattle.codec_payload_c_path.specs.contracts.object.PathObject as object
use Rattle.codec_payload_c_path.specs.contracts.handle.Place.{the_row}
use Rattle.codec_payload_c_path.proofs.object.PathObject.TheSendSync as sent

owned_keyless : (p : Ptr) (value : Option PathObject) → Keyless (owns_object p value)
owned_keyless p None = tt
owned_keyless (block_ptr b o) (Some x) = (part_keyless object.the_row sent.the_send full_share x b o, the_frees.frees heap (raw (lone object.the_row.mir)) (block_ptr b o))
owned_keyless null_ptr (Some x) = (tt, the_frees.frees heap (raw (lone object.the_row.mir)) null_ptr)

pub send : IsSend the_row
send = record { owned = λ n vs. ((λ vss. (tt, (tt, tt))), owned_keyless n.at n.value); leaving = λ k d w. tt }
