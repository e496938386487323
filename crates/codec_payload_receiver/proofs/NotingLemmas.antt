-- The notes of a stream.
use Rattle.std.proofs.Common.{◌≡◌, refl, ap, ℕ, Bool, true, false, [], Option, Some, None, arith}
use Rattle.std.specs.Option.{is_some, option_map}
use Rattle.codec_payload_jitter.specs.Receiving.{Receiving}
use Rattle.codec_payload_jitter.specs.declared.outcome.Outcome.{Outcome}
use Rattle.codec_payload_keyframes.specs.References.{no_references}
use Rattle.codec_payload_keyframes.specs.declared.references.UnitReferences.{UnitReferences}
use Rattle.codec_payload_references.specs.FrameNotes.{Note}
use Rattle.codec_payload_references.specs.Notes.{Notes}
use Rattle.codec_payload_datagrams.specs.Kinds.{Datagram, Kinds}
use Rattle.codec_payload_receiver.specs.Noting.{HasRoomIn, Noting, TakesRange, forgotten, no_notes, notes_after, notes_in, noting_of, restart_if, suspect_note, with_suspect_note}
use Rattle.codec_payload_receiver.specs.declared.notes.PendingNote.{PendingNote}
use Rattle.codec_payload_receiver.specs.declared.notes.StreamNotes.{StreamNotes}

-- a stream without notes stays one
pub none_noted : (n : Option StreamNotes) (s : Kinds) (d : Datagram) (o : Outcome) (before after : Receiving) → is_some n ≡ false
    → option_map noting_of n ≡ notes_after (option_map noting_of n) s d o before after
none_noted None s d o before after is = refl
none_noted (Some n) s d o before after is = cc

-- ---- room

-- memory for the note of the suspect packet is found for each datagram that can confirm a restart
pub room_then : (takes restarts : Bool) (p : Option PendingNote) (n : Option StreamNotes) → (restarts ≡ true → takes ≡ true) → HasRoomIn takes p n → HasRoomIn restarts p n
room_then takes restarts p None means room = tt
room_then takes restarts (Some p) (Some s) means room = room
room_then takes false None (Some s) means room = tt
room_then true true None (Some s) means room = room
room_then false true None (Some s) means room = cc (means refl)

pub is_restart_if : (restarts has_kept : Bool) → is_some (restart_if restarts has_kept) ≡ restarts
is_restart_if true has_kept = refl
is_restart_if false has_kept = refl

-- ---- the note of a suspect packet that is put back

pub put_back : (n : Option Noting) → option_map (with_suspect_note (suspect_note n)) (forgotten n) ≡ n
put_back None = refl
put_back (Some n) = refl

-- without memory for notes there are none, and a unit takes none
none_in : (first last most : ℕ) (is_vp9 : Bool) (descriptor : Option ℕ) (o : Option Notes) (suspect : Option (ℕ × Note)) (references : UnitReferences) → o ≡ None → references ≡ no_references
    → TakesRange first last (record { is_vp9 = is_vp9; descriptor = descriptor; notes = record (notes_in most o) { room = 0; suspect = suspect } }) references
    (record { is_vp9 = is_vp9; descriptor = descriptor; notes = record (notes_in most o) { room = 0; suspect = suspect } })
none_in first last most is_vp9 descriptor None suspect references is none = record {
  is_vp9 = refl;
  descriptor = refl;
  takes = record {
    between = (no_notes most).following;
    skipped = [];
    readings = [];
    reads_skipped = refl;
    reads_unit = refl;
    descriptor = ap (λ (r : UnitReferences). r.descriptor) none;
    differences = ap (λ (r : UnitReferences). r.differences) none;
    rest = refl;
    room = omega arith;
    most = refl;
    suspect = refl;
  };
}
none_in first last most is_vp9 descriptor (Some n) suspect references is none = cc

pub takes_none : (first last : ℕ) (s : StreamNotes) (references : UnitReferences) → s.notes ≡ None → references ≡ no_references → TakesRange first last (noting_of s) references (noting_of s)
takes_none first last s references is none =
    none_in first last s.most s.is_vp9 s.descriptor (option_map (λ b. b.value) s.notes) s.suspect references (ap (option_map (λ b. b.value)) is) none
