-- The result for the frame that is due, from the steps of the code.
use Rattle.std.proofs.Common.{◌≡◌, ◌≢◌, ℕ, refl, sym, subst, List, [], Some, Ok, Err, Bool, true, false, Result, inl, inr}
use Rattle.codec_payload_base.specs.Time.{Time}
use Rattle.codec_payload_base.specs.declared.error.PacketError.{PacketError}
use Rattle.codec_payload_base.specs.declared.error.PacketError.TheVariants as faults
use Rattle.codec_payload_base.specs.declared.interface.CodecExtra.TheVariants as extras
use Rattle.codec_payload_contiguity.specs.ContiguityTable.{checked}
use Rattle.codec_payload_codec.specs.Depacketizers.{DepacketizerState}
use Rattle.codec_payload_buffer.specs.Held.{Held, above}
use Rattle.codec_payload_metadata.specs.Release.{Release}
use Rattle.codec_payload_buffer.specs.Steps.{State, Unpacked, Unpacks, Gives, due_of, packets_of_frame, metas_of, AllOfTime, follows, TakesFrame, Releases, PassesOver}
use Rattle.codec_payload_buffer.specs.declared.buffer.frames.CompleteFrame.{CompleteFrame}
use Rattle.codec_payload_metadata.specs.declared.meta.RtpMeta.{RtpMeta}
use Rattle.codec_payload_contiguity.specs.declared.contiguity.Contiguity.{Contiguity}

-- what the depacketizer gave for the packets of a frame
pub gives_of : (s : State) (f : CompleteFrame) (packets : List Held) (bytes : List ℕ) (answer : Result Unpacked PacketError) (e : DepacketizerState) → packets ≡ packets_of_frame s f
    → bytes ≡ [] → Unpacks s.depacketizer packets (record { bytes = bytes; extra = extras.None }) answer e → Gives s f answer e
gives_of s f packets bytes answer e is empty gives = rw (is, empty) at gives

module _ (s t : State) (same : s ≡ t) (f : CompleteFrame) (due : due_of s ≡ Some f) (e : DepacketizerState) where
  -- it is released
  pub released : (r : Release) (time : Time) (contiguous seq : Bool) (c : Contiguity) (u : Unpacked) (metas : List RtpMeta) (new : State)
      → r ≡ record { time = time; contiguous = contiguous; bytes = u.bytes; codec_extra = u.extra; metas = metas }
      → Gives s f (Ok u) e → AllOfTime time (packets_of_frame s f) → metas ≡ metas_of (packets_of_frame s f) → seq ≡ follows s f → checked s.contiguity u.extra seq ≡ (true, contiguous, c)
      → new ≡ record s { held = above f.last s.held; cutoff = Some f.last; depacketizer = e; contiguity = c; evicted = false } → Releases t r new
  released r time contiguous seq c u metas new is gives of_time of_packets follow answer left =
      subst (λ (x : State). Releases x r new) same
      (subst (λ (x : Release). Releases s x new) (sym is)
      (let given : checked s.contiguity u.extra (follows s f) ≡ (true, contiguous, c) = subst (λ (b : Bool). checked s.contiguity u.extra b ≡ (true, contiguous, c)) follow answer in
      record {
        frame = f;
        is_due = due;
        depacketizer = e;
        gives = gives;
        may = rw given refl;
        time = of_time;
        metas = of_packets;
        contiguous = rw given refl;
        left = rw given left;
      }))

  -- it is skipped
  pub skipped_over : (contiguous seq : Bool) (c : Contiguity) (u : Unpacked) (new : State)
      → Gives s f (Ok u) e → seq ≡ follows s f → checked s.contiguity u.extra seq ≡ (false, contiguous, c)
      → new ≡ record s { held = above f.last s.held; cutoff = Some f.last; depacketizer = e; contiguity = c } → PassesOver t new
  skipped_over contiguous seq c u new gives follow answer left =
      subst (λ (x : State). PassesOver x new) same
      (let given : checked s.contiguity u.extra (follows s f) ≡ (false, contiguous, c) = subst (λ (b : Bool). checked s.contiguity u.extra b ≡ (false, contiguous, c)) follow answer in
      record {
        frame = f;
        is_due = due;
        unpacked = u;
        depacketizer = e;
        gives = gives;
        may_not = rw given refl;
        left = rw given left;
      })

  -- the depacketizer refuses it
  pub refused : (u : State) (fault : PacketError) → u ≡ record s { held = above f.last s.held; cutoff = Some f.last; depacketizer = e } → fault ≢ faults.OutOfMemory
      → Gives s f (Err fault) e → TakesFrame t (Err fault) u
  refused u fault is other gives =
      subst (λ (x : State). TakesFrame x (Err fault) u) same (inr (record { frame = f; is_due = due; depacketizer = e; not_memory = other; gives = gives; left = is }))

  -- memory runs out
  pub stalled : (u : State) → u ≡ record s { depacketizer = e } → Gives s f (Err faults.OutOfMemory) e → TakesFrame t (Err faults.OutOfMemory) u
  stalled u is gives =
      subst (λ (x : State). TakesFrame x (Err faults.OutOfMemory) u) same (inl (refl, record { frame = f; is_due = due; depacketizer = e; reached = inr gives; left = is }))
