-- Runs over packets of the library's own packetizers.
use Rattle.std.specs.Prelude.{◌≡◌, ℕ, suc, ◌+◌, ◌^◌, ◌<◌, ◌==◌, Bool, List, [], ◌∷◌, get_or, length, Option, Some, None}
use Rattle.codec_payload_edges.specs.Edges.{vp8_edge, vp9_edge}
use Rattle.codec_payload_edges.specs.OwnSenders.{Answer, AreVp8Answers, AreVp9Answers, own_sender, payload_at, pictures_of, sizes_of, start_of}
use Rattle.codec_payload_edges.specs.Senders.{Stored}
use Rattle.codec_payload_edges.specs.declared.edge.Edge.{Edge}
use Rattle.codec_payload_stream_edges.specs.Following.{sender_in}
use Rattle.codec_payload_stream_edges.specs.Runs.{Call, HasNext, IsNoted, Reaches, Step, packets_of}
use Rattle.codec_payload_stream_edges.specs.Runs.Call.{Follow}
use Rattle.codec_payload_stream_edges.specs.declared.followed.Followed.{Followed}
use Rattle.codec_payload_vp9.specs.Vp9Sent.{Sender as Vp9Packetizer}

-- a packet has the number of a payload of the pictures, and says what this payload says with its marker. Payloads have consecutive
-- numbers from the first one on, and the last one of each picture has the marker
pub record IsSentIn (edge_of : Bool → List ℕ → Option Edge) (first : ℕ) (pictures : List (List (List ℕ))) (x : Stored) : Type 0 where
  pub picture : ℕ
  pub place : ℕ
  pub within : place < length (get_or pictures picture [])
  pub number : x.number ≡ first + (start_of (sizes_of pictures) picture + place)
  pub edge : edge_of (suc place == length (get_or pictures picture [])) (payload_at pictures picture place) ≡ Some x.edge

abbrev pub AreSentIn : (Bool → List ℕ → Option Edge) → ℕ → List (List (List ℕ)) → List Stored → Type 0
AreSentIn edge_of first pictures [] = Unit {0}
AreSentIn edge_of first pictures (x ∷ xs) = IsSentIn edge_of first pictures x × AreSentIn edge_of first pictures xs

-- In each run, whatever is lost, late or repeated: if the packets of the sender that were stored are payloads of these pictures, a number
-- that a step notes is none of theirs
abbrev pub NoteNoneOf : (Bool → List ℕ → Option Edge) → (first id : ℕ) → List (List (List ℕ)) → Type 0
NoteNoneOf edge_of first id pictures =
    (calls : List Call) (step : Step) (f : Option Followed) → Reaches (Follow step ∷ calls) f → HasNext step.before
    → ((ssrc : ℕ) → step.before.ssrc ≡ Some ssrc → AreSentIn edge_of first pictures (packets_of (sender_in ssrc step.before) (Follow step ∷ calls)))
    → (n : ℕ) → IsNoted n step → (own_sender first id pictures).picture_of n ≡ None

-- for any frames, MTUs and faults, and any number of the first packet
abbrev pub NoteNoneOfVp8 : Type 0
NoteNoneOfVp8 = (first id : ℕ) (answers : List Answer) → id < 2 ^ 15 → AreVp8Answers id answers → NoteNoneOf vp8_edge first id (pictures_of answers)

abbrev pub NoteNoneOfVp9 : Type 0
NoteNoneOfVp9 = (first : ℕ) (s : Vp9Packetizer) (answers : List Answer) → s.picture_id < 2 ^ 15 → AreVp9Answers s answers → NoteNoneOf vp9_edge first s.picture_id (pictures_of answers)
