-- What the packets of a stream of video say of the frames that they begin, until these frames are released.
use Rattle.std.specs.Prelude.{◌≡◌, ◌≤◌, ◌==◌, ◌||◌, ◌^◌, ℕ, if◌then◌else◌, not, Bool, true, false, List, [], Option, Some, None, Result, Ok, Err}
use Rattle.std.specs.Option.{is_some, option_map}
use Rattle.codec_payload_base.specs.declared.error.PacketError.{PacketError}
use Rattle.codec_payload_base.specs.Extended.{extended}
use Rattle.codec_payload_base.specs.declared.wire.Codec.{Codec}
use Rattle.codec_payload_base.specs.declared.wire.Codec.TheVariants as codecs
use Rattle.codec_payload_metadata.specs.Release.{IsFirst, IsLast, Release}
use Rattle.codec_payload_metadata.specs.declared.meta.RtpMeta.{RtpMeta}
use Rattle.codec_payload_jitter.specs.Receiving.{Receiving}
use Rattle.codec_payload_jitter.specs.Suspects.{is_kept_at}
use Rattle.codec_payload_jitter.specs.declared.outcome.Outcome.{Outcome}
use Rattle.codec_payload_jitter.specs.declared.outcome.Outcome.TheVariants as outcomes
use Rattle.codec_payload_keyframes.specs.declared.unit_gate.FromKeyframe.{FromKeyframe}
use Rattle.codec_payload_keyframes.specs.declared.unit_gate.FromKeyframe.TheVariants as modes
use Rattle.codec_payload_keyframes.specs.References.{no_references}
use Rattle.codec_payload_keyframes.specs.declared.references.UnitReferences.{UnitReferences}
use Rattle.codec_payload_references.specs.FrameNotes.{Note, note_of}
use Rattle.codec_payload_references.specs.Notes.{IsTaken, Notes, inserted}
use Rattle.codec_payload_rtp.specs.ExtensionFormats.{bytes_for, elements_of}
use Rattle.codec_payload_rtp.specs.RtpPackets.{Extension}
use Rattle.codec_payload_rtp.specs.RtpValues.{extension_of}
use Rattle.codec_payload_datagrams.specs.Kinds.{Again, AgainEmpty, AgainInRed, Carrier, Datagram, InRed, Kinds, Malformed, OfOthers, RtcpPacket, WithMedia, WithoutMedia}
use Rattle.codec_payload_receiver.specs.declared.notes.Media.{Media}
use Rattle.codec_payload_receiver.specs.declared.notes.PendingNote.{PendingNote}
use Rattle.codec_payload_receiver.specs.declared.notes.StreamNotes.{StreamNotes}

-- the notes of a stream: whether its payload descriptors are those of VP9; the id of the element with the dependency descriptor;
-- and the notes. For how many more there is memory is not seen
pub record Noting : Type 0 where
  pub is_vp9 : Bool
  pub descriptor : Option ℕ
  pub notes : Notes

-- none are held, and nothing is known of the stream
abbrev pub no_notes : ℕ → Notes
no_notes most = record { held = []; room = 0; most = most; following = record { stream = record { structure = None; active = 0 }; latest = 2 ^ 63 }; suspect = None }

-- the notes in memory; without memory there are none
abbrev pub notes_in : ℕ → Option Notes → Notes
notes_in most None = no_notes most
notes_in most (Some n) = n

-- the note of the suspect packet is beside them
abbrev pub noting_of : StreamNotes → Noting
noting_of s = record { is_vp9 = s.is_vp9; descriptor = s.descriptor; notes = record (notes_in s.most (option_map (λ b. b.value) s.notes)) { room = 0; suspect = s.suspect } }

-- ---- which streams need notes

abbrev pub is_inspected : FromKeyframe → Bool
is_inspected modes.Off = false
is_inspected modes.Mark = true
is_inspected modes.Drop = true

abbrev pub no_noting : Bool → Option ℕ → ℕ → Noting
no_noting is_vp9 descriptor most = record { is_vp9 = is_vp9; descriptor = descriptor; notes = no_notes most }

-- VP9, and other video with an id of the dependency descriptor
abbrev pub noting_for : Codec → Option ℕ → ℕ → Option Noting
noting_for codecs.Vp9 descriptor most = Some (no_noting true descriptor most)
noting_for codecs.Vp8 (Some id) most = Some (no_noting false (Some id) most)
noting_for codecs.Av1 (Some id) most = Some (no_noting false (Some id) most)
noting_for _ descriptor most = None

-- if the frames are inspected
abbrev pub new_noting : FromKeyframe → Codec → Option ℕ → ℕ → Option Noting
new_noting mode codec descriptor most = if is_inspected mode then noting_for codec descriptor most else None

-- ---- what a datagram brings

-- a packet with media: its original number, its RTP time, its header extension, and its payload
pub record MediaPacket : Type 0 where
  pub number : ℕ
  pub time : ℕ
  pub extension : Option Extension
  pub bytes : List ℕ

abbrev pub media_of : Media → MediaPacket
media_of m = record { number = m.number; time = m.time; extension = extension_of m.extension; bytes = m.payload.now }

-- the primary block of a RED packet, if it is media of the stream; redundant blocks have no header extension
abbrev pub primary_media : Kinds → Carrier → Option MediaPacket
primary_media s c = if c.primary.pt == s.payload_type then Some (record { number = c.header.sequence_number; time = c.header.timestamp; extension = c.header.extension; bytes = c.primary.payload }) else None

abbrev pub media_in : Kinds → Datagram → Option MediaPacket
media_in s RtcpPacket = None
media_in s (Malformed e) = None
media_in s OfOthers = None
media_in s (WithoutMedia h) = None
media_in s (WithMedia p) = Some (record { number = p.header.sequence_number; time = p.header.timestamp; extension = p.header.extension; bytes = p.payload })
media_in s (InRed c) = primary_media s c
media_in s (Again o) = Some (record { number = o.number; time = o.header.timestamp; extension = o.header.extension; bytes = o.bytes })
media_in s (AgainInRed c) = primary_media s c
media_in s AgainEmpty = None

-- its note, if it begins a frame
abbrev pub pending_by : Noting → MediaPacket → PendingNote
pending_by n m = record { number = m.number; time = m.time; note = note_of n.is_vp9 m.bytes (bytes_for n.descriptor (elements_of m.extension)) }

abbrev pub pending_in : Option Noting → Kinds → Datagram → Option PendingNote
pending_in None s d = None
pending_in (Some n) s d = option_map (pending_by n) (media_in s d)

-- ---- notes of packets that are stored

-- under the number nearest to the highest one
abbrev pub with_near : Option ℕ → ℕ → Note → Noting → Noting
with_near highest low note n = record n { notes = record n.notes { held = inserted n.notes.most (record { number = extended 65536 highest low; note = note }) n.notes.held } }

abbrev pub with_note : Option ℕ → ℕ → Option Note → Noting → Noting
with_note highest low None n = n
with_note highest low (Some note) n = with_near highest low note n

-- the note of the packet that the jitter buffer keeps as suspect, with its number
abbrev pub suspect_note : Option Noting → Option (ℕ × Note)
suspect_note None = None
suspect_note (Some n) = n.notes.suspect

abbrev pub with_suspect_note : Option (ℕ × Note) → Noting → Noting
with_suspect_note suspect n = record n { notes = record n.notes { suspect = suspect } }

-- it is forgotten
abbrev pub forgetting : Noting → Noting
forgetting n = with_suspect_note None n

abbrev pub forgotten : Option Noting → Option Noting
forgotten n = option_map forgetting n

-- the suspect packet was stored
abbrev pub with_kept : Option ℕ → Option (ℕ × Note) → Noting → Noting
with_kept highest None n = n
with_kept highest (Some kept) n = with_near highest kept.0 kept.1 n

-- a restart: the note of the suspect packet is inserted if that packet was stored, and else forgotten
abbrev pub kept_noted : (is_stored : Bool) → Option ℕ → Noting → Noting
kept_noted true highest n = with_kept highest n.notes.suspect (forgetting n)
kept_noted false highest n = forgetting n

abbrev pub kept_noted_if : Option Bool → Option ℕ → Noting → Noting
kept_noted_if None highest n = n
kept_noted_if (Some is_stored) highest n = kept_noted is_stored highest n

-- by the outcome of the packet: a packet that was not stored has no note; if the jitter buffer keeps it as suspect, its note replaces
-- the note of the suspect packet before, and waits for a restart
abbrev pub noted : PendingNote → Outcome → (is_kept : Bool) → Option ℕ → Noting → Noting
noted p outcomes.Held is_kept highest n = with_note highest p.number p.note n
noted p outcomes.HeldAndEvicted is_kept highest n = with_note highest p.number p.note n
noted p outcomes.Suspect true highest n = with_suspect_note (option_map (λ x. (p.number, x)) p.note) n
noted p outcomes.Suspect false highest n = n
noted p (outcomes.Restarted with_kept) is_kept highest n = with_note highest p.number p.note n
noted p outcomes.Duplicate is_kept highest n = n
noted p outcomes.Late is_kept highest n = n
noted p outcomes.NoMedia is_kept highest n = n
noted p outcomes.OtherStream is_kept highest n = n
noted p outcomes.Undecided is_kept highest n = n
noted p outcomes.Rtcp is_kept highest n = n

-- the jitter buffer after the packet keeps it if its suspect packet has this number and this RTP time
abbrev pub noted_if : Option PendingNote → Outcome → Receiving → Noting → Noting
noted_if None outcome after n = n
noted_if (Some p) outcome after n = noted p outcome (is_kept_at p.number p.time after.kept) after.numbering.greatest n

abbrev pub settled_by : Option PendingNote → Outcome → Option Bool → Receiving → Noting → Noting
settled_by p outcome restart after n = noted_if p outcome after (kept_noted_if restart after.numbering.greatest n)

abbrev pub noted_with : Option Noting → Option PendingNote → Outcome → Option Bool → Receiving → Option Noting
noted_with n p outcome restart after = option_map (settled_by p outcome restart after) n

-- whether a restart was confirmed between these two states of the jitter buffer; and if so, whether a suspect packet was kept, which is
-- then stored
abbrev pub restart_if : (has_restarted : Bool) → (has_kept : Bool) → Option Bool
restart_if true has_kept = Some has_kept
restart_if false has_kept = None

abbrev pub restart_between : (before after : Receiving) → Option Bool
restart_between before after = restart_if (not (after.counters.restarts == before.counters.restarts)) (is_some before.kept)

-- the notes after a datagram with this outcome, before and after which the jitter buffer is in these states
abbrev pub notes_after : Option Noting → Kinds → Datagram → Outcome → (before after : Receiving) → Option Noting
notes_after n s d outcome before after = noted_with n (pending_in n s d) outcome (restart_between before after) after

-- for how many more notes there is memory
abbrev pub room_in : Option Notes → ℕ
room_in None = 0
room_in (Some n) = n.room

abbrev pub room_of : StreamNotes → ℕ
room_of s = room_in (option_map (λ b. b.value) s.notes)

-- there is memory for the note of a packet, if it has one, and for the note of the suspect packet, if there is one
abbrev pub HasRoomFor : Bool → StreamNotes → Type 0
HasRoomFor there s = (there || is_some s.suspect) ≡ true → 2 ≤ room_of s

abbrev pub HasRoomIf : Bool → Option PendingNote → StreamNotes → Type 0
HasRoomIf restarts (Some p) s = HasRoomFor (is_some p.note) s
HasRoomIf true None s = HasRoomFor false s
HasRoomIf false None s = Unit {0}

abbrev pub HasRoomIn : Bool → Option PendingNote → Option StreamNotes → Type 0
HasRoomIn restarts p None = Unit {0}
HasRoomIn restarts p (Some s) = HasRoomIf restarts p s

-- ---- notes of units that are released

-- the notes of all numbers up to the last one leave, and those from the first one on say what their unit refers to
pub record TakesRange (first last : ℕ) (n : Noting) (references : UnitReferences) (t : Noting) : Type 0 where
  pub is_vp9 : t.is_vp9 ≡ n.is_vp9
  pub descriptor : t.descriptor ≡ n.descriptor
  pub takes : IsTaken n.notes first last references t.notes

-- the numbers are those of the packets of the unit
pub record TakesOf (unit : Release) (n : Noting) (references : UnitReferences) (t : Noting) : Type 0 where
  pub first : RtpMeta
  pub last : RtpMeta
  pub begins : IsFirst unit.metas first
  pub ends : IsLast unit.metas last
  pub takes : TakesRange first.seq_no.0 last.seq_no.0 n references t

-- a stream without notes has none afterwards
abbrev pub TakesBy : Release → Option Noting → UnitReferences → Option Noting → Type 0
TakesBy unit None references None = references ≡ no_references
TakesBy unit None references (Some t) = ⊥
TakesBy unit (Some n) references None = ⊥
TakesBy unit (Some n) references (Some t) = TakesOf unit n references t

-- an answer without a unit leaves the notes to the next unit
abbrev pub TakesNotes : Option (Result Release PacketError) → Option Noting → UnitReferences → Option Noting → Type 0
TakesNotes None n references t = (references ≡ no_references) × (t ≡ n)
TakesNotes (Some (Err fault)) n references t = (references ≡ no_references) × (t ≡ n)
TakesNotes (Some (Ok unit)) n references t = TakesBy unit n references t
