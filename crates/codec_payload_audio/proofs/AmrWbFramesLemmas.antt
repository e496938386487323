-- Lemmas on the reads of all frames.
use Rattle.std.proofs.Common.{◌≡◌, ℕ, List, [], ◌∷◌, ◌++◌, refl, sym, ◌∙◌, ap, append_assoc, append-nil, Some, None, Ok, Err, Result, Bool, true, false}
use Rattle.codec_payload_base.specs.Bits.{bits_of}
use Rattle.codec_payload_base.specs.declared.error.PacketError.{PacketError}
use Rattle.codec_payload_base.specs.declared.error.PacketError.TheVariants as faults
use Rattle.codec_payload_audio.specs.declared.amr_wb.toc.TocEntry.{TocEntry}
use Rattle.codec_payload_audio.specs.AmrWb.{speech_size}
use Rattle.codec_payload_audio.specs.AmrWbReceived.{Entry, entries_at, frame_at, frames_at, frames_of, then_frames, with_front, with_frame, HasEntries, Extends, Gains, FailsAs}
use Rattle.codec_payload_audio.specs.AmrWbEntries.{ReadsEntry, entry_of}
use Rattle.codec_payload_audio.proofs.AmrWbEntryLemmas.{entries_more, entries_last}
use Rattle.codec_payload_audio.proofs.AmrWbReadLemmas.{extends_same, extends_on}

-- the frames read so far, followed by the remaining ones, are all frames
pub record FramesSoFar (octet : Bool) (toc0 speech0 toc speech added : List ℕ) : Type 0 where
  pub table : HasEntries octet toc
  pub before : with_frame added (frames_of octet (entries_at octet toc) speech) ≡ frames_of octet (entries_at octet toc0) speech0

with_frame_none : (r : Result (List ℕ × List ℕ) PacketError) → with_frame [] r ≡ r
with_frame_none (Ok x) = refl
with_frame_none (Err e) = refl

with_frame_more : (a b : List ℕ) (r : Result (List ℕ × List ℕ) PacketError) → with_frame a (with_frame b r) ≡ with_frame (a ++ b) r
with_frame_more a b (Ok x) = ap (λ t. Ok (t, x.1)) (sym (append_assoc a b x.0))
with_frame_more a b (Err e) = refl

pub frames_none : (octet : Bool) (toc speech : List ℕ) → HasEntries octet toc → FramesSoFar octet toc speech toc speech []
frames_none octet toc speech table = record { table = table; before = with_frame_none (frames_of octet (entries_at octet toc) speech) }

record Step (octet : Bool) (en : Entry) (speech : List ℕ) (r r' : Result (List Entry × List ℕ) PacketError) : Type 0 where
  pub table : (y : List Entry × List ℕ) × (r' ≡ Ok y)
  pub is : frames_of octet r speech ≡ then_frames (frame_at octet en speech (speech_size en.kind)) (λ rest. frames_of octet r' rest)

step_more : (octet : Bool) (en : Entry) (speech : List ℕ) (r r' : Result (List Entry × List ℕ) PacketError) (x : List Entry × List ℕ) → r ≡ with_front (en ∷ []) r'
    → r ≡ Ok x → Step octet en speech r r'
unfolding frames_at
step_more octet en speech r (Ok y) x e h = record { table = (y, refl); is = ap (λ t. frames_of octet t speech) e }
step_more octet en speech r (Err g) x e h = let bad : ◌≡◌ {A = Result (List Entry × List ℕ) PacketError} (Err g) (Ok x) = sym e ∙ h in cc

step_last : (octet : Bool) (en : Entry) (speech next : List ℕ) (r : Result (List Entry × List ℕ) PacketError) → r ≡ Ok (en ∷ [], next)
    → frames_of octet r speech ≡ then_frames (frame_at octet en speech (speech_size en.kind)) (λ rest. Ok ([], rest))
unfolding frames_at
step_last octet en speech next r e = ap (λ t. frames_of octet t speech) e

module _ (octet : Bool) (toc0 speech0 toc speech added next : List ℕ) (e : TocEntry) (s : FramesSoFar octet toc0 speech0 toc speech added) (r : ReadsEntry octet toc next (Some e)) where
  here : Result (List ℕ × List ℕ) PacketError
  here = frame_at octet (entry_of e) speech (speech_size e.frame_type)

  more : e.follows ≡ true → Step octet (entry_of e) speech (entries_at octet toc) (entries_at octet next)
  more on = step_more octet (entry_of e) speech (entries_at octet toc) (entries_at octet next) s.table.0 (entries_more octet toc next e r on) s.table.1

  last : e.follows ≡ false → frames_of octet (entries_at octet toc) speech ≡ then_frames (frame_at octet (entry_of e) speech (speech_size e.frame_type)) (λ rest. Ok ([], rest))
  last off = step_last octet (entry_of e) speech next (entries_at octet toc) (entries_last octet toc next e r off)

  pub frames_more : (frame rest : List ℕ) → e.follows ≡ true → frame_at octet (entry_of e) speech (speech_size e.frame_type) ≡ Ok (frame, rest)
      → FramesSoFar octet toc0 speech0 next rest (added ++ frame)
  frames_more frame rest on given = record {
    table = (more on).table;
    before =
        sym (with_frame_more added frame (frames_of octet (entries_at octet next) rest))
        ∙ ap (λ t. with_frame added (then_frames t (λ rest. frames_of octet (entries_at octet next) rest))) (sym given)
        ∙ ap (with_frame added) (sym (more on).is)
        ∙ s.before;
  }

  pub frames_last : (frame rest : List ℕ) → e.follows ≡ false → frame_at octet (entry_of e) speech (speech_size e.frame_type) ≡ Ok (frame, rest)
      → frames_of octet (entries_at octet toc0) speech0 ≡ Ok (added ++ frame, rest)
  frames_last frame rest off given =
      sym s.before
      ∙ ap (with_frame added) (last off)
      ∙ ap (λ t. with_frame added (then_frames t (λ rest. Ok ([], rest)))) given
      ∙ ap (λ t. Ok (added ++ t, rest)) (append-nil frame)

  fail_by : (b : Bool) (f : PacketError) → e.follows ≡ b → frame_at octet (entry_of e) speech (speech_size e.frame_type) ≡ Err f → frames_of octet (entries_at octet toc) speech ≡ Err f
  fail_by true f on given = (more on).is ∙ ap (λ t. then_frames t (λ rest. frames_of octet (entries_at octet next) rest)) given
  fail_by false f off given = last off ∙ ap (λ t. then_frames t (λ rest. Ok ([], rest))) given

  pub frames_fail : (f : PacketError) → frame_at octet (entry_of e) speech (speech_size e.frame_type) ≡ Err f → frames_of octet (entries_at octet toc0) speech0 ≡ Err f
  frames_fail f given = sym s.before ∙ ap (with_frame added) (fail_by e.follows f refl given)

pub frames_short : (octet : Bool) (toc0 speech0 toc speech added next : List ℕ) → FramesSoFar octet toc0 speech0 toc speech added → ReadsEntry octet toc next None
    → frames_of octet (entries_at octet toc0) speech0 ≡ Err faults.ErrShortPacket
frames_short octet toc0 speech0 toc speech added next s r = sym s.before ∙ ap (λ t. with_frame added (frames_of octet t speech)) r

-- out has gained the frames read so far
pub record Gathered (octet : Bool) (toc0 speech0 toc speech out0 out : List ℕ) : Type 0 where
  pub added : List ℕ
  pub so_far : FramesSoFar octet toc0 speech0 toc speech added
  pub gained : bits_of out ≡ bits_of out0 ++ added
  pub extends : Extends out0 out

pub gathered_none : (octet : Bool) (toc speech out : List ℕ) → HasEntries octet toc → Gathered octet toc speech toc speech out out
gathered_none octet toc speech out table = record { added = []; so_far = frames_none octet toc speech table; gained = sym (append-nil (bits_of out)); extends = extends_same out }

gained_frame : (out new rest : List ℕ) (r : Result (List ℕ × List ℕ) PacketError) → Gains out new rest r → (frame : List ℕ) × (r ≡ Ok (frame, rest)) × (bits_of new ≡ bits_of out ++ frame)
gained_frame out new rest (Ok x) g = (x.0, ap (λ t. Ok (x.0, t)) (sym g.1), g.0)
gained_frame out new rest (Err e) g = absurd g

module _ (octet : Bool) (toc0 speech0 toc speech out0 out next : List ℕ) (e : TocEntry) (s : Gathered octet toc0 speech0 toc speech out0 out) (r : ReadsEntry octet toc next (Some e)) where
  pub gathered_more : (new rest : List ℕ) → e.follows ≡ true → Gains out new rest (frame_at octet (entry_of e) speech (speech_size e.frame_type)) → Extends out new
      → Gathered octet toc0 speech0 next rest out0 new
  gathered_more new rest on gains kept =
      let g = gained_frame out new rest (frame_at octet (entry_of e) speech (speech_size e.frame_type)) gains in
      record {
        added = s.added ++ g.0;
        so_far = frames_more octet toc0 speech0 toc speech s.added next e s.so_far r g.0 rest on g.1;
        gained = g.2 ∙ ap (λ t. t ++ g.0) s.gained ∙ append_assoc (bits_of out0) s.added g.0;
        extends = extends_on out0 out new s.extends kept;
      }

  pub gathered_last : (new rest : List ℕ) → e.follows ≡ false → Gains out new rest (frame_at octet (entry_of e) speech (speech_size e.frame_type))
      → Gains out0 new rest (frames_of octet (entries_at octet toc0) speech0)
  gathered_last new rest off gains =
      let g = gained_frame out new rest (frame_at octet (entry_of e) speech (speech_size e.frame_type)) gains in
      rw (frames_last octet toc0 speech0 toc speech s.added next e s.so_far r g.0 rest off g.1)
      (g.2 ∙ ap (λ t. t ++ g.0) s.gained ∙ append_assoc (bits_of out0) s.added g.0, refl)

  pub gathered_fail : (f : PacketError) → FailsAs f (frame_at octet (entry_of e) speech (speech_size e.frame_type)) → FailsAs f (frames_of octet (entries_at octet toc0) speech0)
  gathered_fail f fails = λ other. frames_fail octet toc0 speech0 toc speech s.added next e s.so_far r f (fails other)
