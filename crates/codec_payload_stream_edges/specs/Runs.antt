-- Which numbers are noted over a run of calls.
use Rattle.std.specs.Prelude.{◌≡◌, ℕ, ◌+◌, ◌^◌, ◌<◌, ◌==◌, ◌&&◌, Bool, true, false, List, [], ◌∷◌, Option, Some, None, Result, IfSome}
use Rattle.std.specs.declared.alloc.AllocError.{AllocError}
use Rattle.codec_payload_buffer.specs.Held.{has_number}
use Rattle.codec_payload_buffer.specs.Steps.{is_at_most}
use Rattle.codec_payload_edges.specs.Senders.{AreOf, IsBetween, Sender, SendsInOrder, Stored}
use Rattle.codec_payload_edges.specs.declared.edge.Edge.{Edge}
use Rattle.codec_payload_edges.specs.declared.pictures.Between.{Between}
use Rattle.codec_payload_jitter.specs.NoMediaNumbers.{is_in}
use Rattle.codec_payload_jitter.specs.declared.outcome.Outcome.{Outcome}
use Rattle.codec_payload_receiver.specs.Sessions.{Session}
use Rattle.codec_payload_receiver.specs.declared.receiver.ReceiveError.{ReceiveError}
use Rattle.codec_payload_stream_edges.specs.Brought.{MediaPacket, at_edge, brought_at, can_say, edge_of}
use Rattle.codec_payload_stream_edges.specs.Following.{Follows, is_stored, number_in, sender_in}
use Rattle.codec_payload_stream_edges.specs.declared.followed.Followed.{Followed}
use Rattle.codec_payload_stream_edges.specs.declared.followed.SenderMark.{SenderMark}
use Rattle.codec_payload_stream_edges.specs.declared.rules.EdgeRules.{EdgeRules}

-- a datagram is followed: what the receiver answered for it, the receiver then, and the receiver afterwards
pub record Step : Type 0 where
  pub rules : EdgeRules
  pub bytes : List ℕ
  pub received : Result Outcome ReceiveError
  pub before : Session
  pub answer : Result Unit AllocError
  pub after : Session

-- a call. Between two calls the receiver does anything
pub data Call : Type 0 where
  Follow : Step → Call
  Forget : Call

-- the calls, the latest of which is the first of the list, lead from nothing to these edges
abbrev pub Reaches : List Call → Option Followed → Type 0
Reaches [] f = f ≡ None
Reaches (Forget ∷ calls) f = f ≡ None
Reaches (Follow step ∷ calls) f = (mid : Option Followed) × Reaches calls mid × Follows step.rules step.bytes step.received mid step.before step.answer f step.after

-- ---- the packets of a sender that were stored

abbrev pub stored_with : ℕ → Option Edge → Option Stored
stored_with n None = None
stored_with n (Some e) = Some (record { number = n; edge = e })

-- a packet with media at the edge of a picture, under its number without wrap
abbrev pub stored_by : EdgeRules → Session → Option MediaPacket → Option Stored
stored_by k s None = None
stored_by k s (Some m) = stored_with (number_in s m.number) (at_edge (edge_of k m))

abbrev pub stored_if : Bool → EdgeRules → List ℕ → ℕ → Session → Option Stored
stored_if false k bytes ssrc s = None
stored_if true k bytes ssrc s = stored_by k s (brought_at k ssrc bytes)

-- the packet of the stream with this SSRC that a step has stored
abbrev pub stored_in : ℕ → Step → Option Stored
stored_in ssrc step = stored_if (can_say step.rules && is_stored step.received) step.rules step.bytes ssrc step.before

abbrev pub has_ssrc : Option ℕ → ℕ → Bool
has_ssrc None ssrc = false
has_ssrc (Some own) ssrc = own == ssrc

-- the receiver has this SSRC, and has found as many restarts
abbrev pub is_by : SenderMark → Step → Bool
is_by sender step = has_ssrc step.before.ssrc sender.ssrc && (step.before.packets.counters.restarts == sender.restarts)

abbrev pub with_packet : Bool → Option Stored → List Stored → List Stored
with_packet false x xs = xs
with_packet true None xs = xs
with_packet true (Some x) xs = x ∷ xs

-- the packets of a sender at the edges of its pictures that were stored since everything was forgotten
abbrev pub packets_of : SenderMark → List Call → List Stored
packets_of sender [] = []
packets_of sender (Forget ∷ calls) = []
packets_of sender (Follow step ∷ calls) = with_packet (is_by sender step) (stored_in sender.ssrc step) (packets_of sender calls)

-- ---- the numbers that are noted

-- the number was not noted before the step, and is noted after it
pub record IsNoted (n : ℕ) (step : Step) : Type 0 where
  pub before : is_in n step.before.packets.no_media_numbers ≡ false
  pub after : is_in n step.after.packets.no_media_numbers ≡ true

-- a packet ends a picture below the number, and another one begins the next picture above it
pub record LiesBetween (xs : List Stored) (n : ℕ) : Type 0 where
  pub range : Between
  pub is : IsBetween xs range
  pub above : range.after < n
  pub below : n < range.before

-- no packet with the number is held, and the number is above the cutoff. A packet that was stored is held until it leaves, and the
-- cutoff is then at its number or above it
pub record IsOpen (n : ℕ) (s : Session) : Type 0 where
  pub unheld : has_number n s.packets.buffer.held ≡ false
  pub unreleased : is_at_most s.packets.buffer.cutoff n ≡ false

-- the cutoff is below the last number of 64 bits
abbrev pub HasNext : Session → Type 0
HasNext s = IfSome s.packets.buffer.cutoff (λ c. c + 1 < 2 ^ 64)

-- In each run: a number that a step notes lies between two packets that the stream's sender has sent since its beginning, and that were
-- stored, and no packet with the number was stored
pub record IsRightlyNoted (n : ℕ) (step : Step) (calls : List Call) : Type 0 where
  pub ssrc : ℕ
  pub known : step.before.ssrc ≡ Some ssrc
  pub between : LiesBetween (packets_of (sender_in ssrc step.before) (Follow step ∷ calls)) n
  pub unstored : IsOpen n step.before

abbrev pub NoteBetweenPictures : Type 0
NoteBetweenPictures =
    (calls : List Call) (step : Step) (f : Option Followed) → Reaches (Follow step ∷ calls) f → HasNext step.before
    → (n : ℕ) → IsNoted n step → IsRightlyNoted n step calls

-- In each run, for each sender that sends in order, whatever is lost, late or repeated: a number that a step notes was not sent as media
abbrev pub NoteNoMedia : Type 0
NoteNoMedia =
    (calls : List Call) (step : Step) (f : Option Followed) → Reaches (Follow step ∷ calls) f → HasNext step.before
    → (s : Sender) → SendsInOrder s → ((ssrc : ℕ) → step.before.ssrc ≡ Some ssrc → AreOf s (packets_of (sender_in ssrc step.before) (Follow step ∷ calls)))
    → (n : ℕ) → IsNoted n step → s.picture_of n ≡ None
