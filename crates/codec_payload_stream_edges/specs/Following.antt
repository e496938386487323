-- What a stream's edges say to its receiver after a datagram.
use Rattle.std.specs.Prelude.{◌≡◌, ℕ, zero, suc, ◌+◌, ◌==◌, ◌&&◌, ◌||◌, if◌then◌else◌, Bool, true, false, List, Option, Some, None, Result, Ok, Err}
use Rattle.std.specs.Global.{Box}
use Rattle.std.specs.Option.{option_map}
use Rattle.std.specs.declared.alloc.AllocError.{AllocError}
use Rattle.codec_payload_base.specs.Extended.{extended}
use Rattle.codec_payload_edges.specs.Pictures.{Pictures, checked, distrusted, heard, no_edges, with_noted}
use Rattle.codec_payload_edges.specs.declared.edge.Edge.{Edge}
use Rattle.codec_payload_edges.specs.declared.pictures.Between.{Between}
use Rattle.codec_payload_jitter.specs.NotedRanges.{NotesRange}
use Rattle.codec_payload_jitter.specs.Receiving.{Receiving}
use Rattle.codec_payload_jitter.specs.declared.outcome.Outcome.{Outcome}
use Rattle.codec_payload_jitter.specs.declared.outcome.Outcome.TheVariants as outcomes
use Rattle.codec_payload_receiver.specs.Sessions.{Session}
use Rattle.codec_payload_receiver.specs.declared.receiver.ReceiveError.{ReceiveError}
use Rattle.codec_payload_stream_edges.specs.Brought.{MediaPacket, at_edge, brought_at, can_say, edge_of}
use Rattle.codec_payload_stream_edges.specs.declared.rules.EdgeRules.{EdgeRules}
use Rattle.codec_payload_stream_edges.specs.declared.followed.Followed.{Followed}
use Rattle.codec_payload_stream_edges.specs.declared.followed.SenderMark.{SenderMark}

-- what a stream keeps on the heap
abbrev pub unboxed : Option (Box Followed) → Option Followed
unboxed followed = option_map (λ b. b.value) followed

abbrev pub is_trusted : Option Followed → Bool
is_trusted None = true
is_trusted (Some f) = f.pictures.is_trusted

-- ---- what the receiver answered

-- the packet was stored
abbrev pub is_stored : Result Outcome ReceiveError → Bool
is_stored (Ok outcomes.Held) = true
is_stored (Ok outcomes.HeldAndEvicted) = true
is_stored (Ok (outcomes.Restarted _)) = true
is_stored (Ok _) = false
is_stored (Err e) = false

abbrev pub is_late : Result Outcome ReceiveError → Bool
is_late (Ok outcomes.Late) = true
is_late (Ok _) = false
is_late (Err e) = false

-- its media has come, in time or late
abbrev pub has_come : Result Outcome ReceiveError → Bool
has_come answer = is_stored answer || is_late answer

-- ---- whose pictures are known

abbrev pub begun : SenderMark → Followed
begun sender = record { sender = sender; pictures = no_edges }

abbrev pub is_of_sender : SenderMark → Followed → Bool
is_of_sender sender f = (f.sender.ssrc == sender.ssrc) && (f.sender.restarts == sender.restarts)

-- the pictures of another sender are forgotten
abbrev pub of_sender : SenderMark → Followed → Followed
of_sender sender f = if is_of_sender sender f then f else begun sender

abbrev pub of_sender_in : SenderMark → Option Followed → Followed
of_sender_in sender None = begun sender
of_sender_in sender (Some f) = of_sender sender f

-- media of the sender has come under this number
abbrev pub checked_for : SenderMark → ℕ → Followed → Followed
checked_for sender n f = if is_of_sender sender f then record f { pictures = checked n f.pictures } else f

-- ---- the numbers of a range are noted

-- what the jitter buffer answered: a packet of the range is held, so the sender does not keep the rule; none was new; some were new
abbrev pub settled : Between → Option ℕ → Pictures → Pictures
settled range None s = distrusted s
settled range (Some zero) s = s
settled range (Some (suc more)) s = with_noted range s

-- all numbers between the two numbers of the range
abbrev pub NotesBetween : Between → Followed → Receiving → Followed → Receiving → Type 0
NotesBetween range f r g t = (noted : Option ℕ) × NotesRange (range.after + 1) range.before r noted t × (g ≡ record f { pictures = settled range noted f.pictures })

-- if memory runs out, none
abbrev pub NotesGap : Option Between → Followed → Receiving → Result Unit AllocError → Followed → Receiving → Type 0
NotesGap None f r answer g t = (answer ≡ Ok tt) × (g ≡ f) × (t ≡ r)
NotesGap (Some range) f r (Ok done) g t = NotesBetween range f r g t
NotesGap (Some range) f r (Err e) g t = (g ≡ f) × (t ≡ r)

-- the numbers behind the packet: none if memory ran out before, or if the sender is not trusted
abbrev pub gap_if : Bool → Option Between → Option Between
gap_if true gap = gap
gap_if false gap = None

abbrev pub NotesLater : Option Between → Result Unit AllocError → Followed → Receiving → Result Unit AllocError → Followed → Receiving → Type 0
NotesLater gap (Err e) f r answer g t = (answer ≡ Err e) × (g ≡ f) × (t ≡ r)
NotesLater gap (Ok done) f r answer g t = NotesGap (gap_if f.pictures.is_trusted gap) f r answer g t

-- a packet at the edge of a picture is stored: the numbers before it, and then those behind it
pub record HearsEdge (n : ℕ) (e : Edge) (f : Followed) (r : Receiving) (answer : Result Unit AllocError) (g : Followed) (t : Receiving) : Type 0 where
  pub first : Result Unit AllocError
  pub mid : Followed
  pub packets : Receiving
  pub before : NotesGap ((heard n e f.pictures).1).before (record f { pictures = (heard n e f.pictures).0 }) r first mid packets
  pub after : NotesLater ((heard n e f.pictures).1).after first mid packets answer g t

abbrev pub IsErr : Result Unit AllocError → Type 0
IsErr (Ok done) = ⊥
IsErr (Err e) = Unit {0}

-- the first such packet needs memory; without memory nothing changes
abbrev pub HearsFor : SenderMark → ℕ → Edge → Option Followed → Receiving → Result Unit AllocError → Option Followed → Receiving → Type 0
HearsFor sender n e f r answer None t = (f ≡ None) × (t ≡ r) × IsErr answer
HearsFor sender n e f r answer (Some g) t = HearsEdge n e (of_sender_in sender f) r answer g t

-- ---- a datagram is followed

abbrev pub edge_if : Bool → Option Edge → Option Edge
edge_if true edge = edge
edge_if false edge = None

abbrev pub FollowsEdge : SenderMark → ℕ → Option Edge → Option Followed → Receiving → Result Unit AllocError → Option Followed → Receiving → Type 0
FollowsEdge sender n None f r answer g t = (answer ≡ Ok tt) × (g ≡ f) × (t ≡ r)
FollowsEdge sender n (Some e) f r answer g t = HearsFor sender n e f r answer g t

-- the sender of the packets that the receiver has
abbrev pub sender_in : ℕ → Session → SenderMark
sender_in ssrc s = record { ssrc = ssrc; restarts = s.packets.counters.restarts }

-- the number of a packet without wrap: the one nearest to the highest number
abbrev pub number_in : Session → ℕ → ℕ
number_in s low = extended 65536 s.packets.numbering.greatest low

abbrev pub FollowsPacket : EdgeRules → Option MediaPacket → (is_stored : Bool) → ℕ → Option Followed → Session → Result Unit AllocError → Option Followed → Receiving → Type 0
FollowsPacket k None stored ssrc f s answer g t = (answer ≡ Ok tt) × (g ≡ f) × (t ≡ s.packets)
FollowsPacket k (Some m) stored ssrc f s answer g t =
    FollowsEdge (sender_in ssrc s) (number_in s m.number) (edge_if stored (at_edge (edge_of k m))) (option_map (checked_for (sender_in ssrc s) (number_in s m.number)) f) s.packets answer g t

abbrev pub FollowsFor : EdgeRules → List ℕ → (is_stored : Bool) → Option ℕ → Option Followed → Session → Result Unit AllocError → Option Followed → Receiving → Type 0
FollowsFor k bytes stored None f s answer g t = (answer ≡ Ok tt) × (g ≡ f) × (t ≡ s.packets)
FollowsFor k bytes stored (Some ssrc) f s answer g t = FollowsPacket k (brought_at k ssrc bytes) stored ssrc f s answer g t

abbrev pub FollowsMedia : EdgeRules → List ℕ → (is_stored : Bool) → Option Followed → Session → Result Unit AllocError → Option Followed → Session → Type 0
FollowsMedia k bytes stored f s answer g t = FollowsFor k bytes stored s.ssrc f s answer g t.packets

abbrev pub FollowsIf : Bool → EdgeRules → List ℕ → (is_stored : Bool) → Option Followed → Session → Result Unit AllocError → Option Followed → Session → Type 0
FollowsIf true k bytes stored f s answer g t = FollowsMedia k bytes stored f s answer g t
FollowsIf false k bytes stored f s answer g t = (answer ≡ Ok tt) × (g ≡ f) × (t ≡ s)

-- the receiver has answered for a datagram; if its packet has come, it is followed
abbrev pub Follows : EdgeRules → List ℕ → Result Outcome ReceiveError → Option Followed → Session → Result Unit AllocError → Option Followed → Session → Type 0
Follows k bytes received f s answer g t = FollowsIf (can_say k && has_come received) k bytes (is_stored received) f s answer g t
