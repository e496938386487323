-- The library's own packetizers with picture ids send in order.
use Rattle.std.specs.Prelude.{◌≡◌, ℕ, suc, ◌+◌, ◌-◌, ◌^◌, ◌<◌, ◌==◌, nat_lt, if◌then◌else◌, zero, Bool, List, [], ◌∷◌, get_or, length, Option, Some, None, Result, Ok, Err}
use Rattle.codec_payload_base.specs.declared.error.PacketError.{PacketError}
use Rattle.codec_payload_vp8.specs.Vp8Sent.{Vp8Sends}
use Rattle.codec_payload_vp9.specs.Vp9Sent.{Sender as Vp9Packetizer, Vp9Sends}
use Rattle.codec_payload_edges.specs.Edges.{vp8_edge, vp9_edge}
use Rattle.codec_payload_edges.specs.Senders.{HasMediaAlone, IsOf, Sender, SendsInOrder, Stored}
use Rattle.codec_payload_edges.specs.declared.edge.Edge.{Edge}

-- the answer of a packetizer for a frame: its payloads, in order, or a fault
abbrev pub Answer : Type 0
Answer = Result (List (List ℕ)) PacketError

-- the answers for frames, one after another, of any size and with any MTU
abbrev pub AreVp8Answers : (id : ℕ) → List Answer → Type 0
AreVp8Answers id [] = Unit {0}
AreVp8Answers id (answer ∷ answers) = (mtu : ℕ) × (frame : List ℕ) × (after : ℕ) × Vp8Sends (Some id) mtu frame answer (Some after) × AreVp8Answers after answers

abbrev pub AreVp9Answers : Vp9Packetizer → List Answer → Type 0
AreVp9Answers s [] = Unit {0}
AreVp9Answers s (answer ∷ answers) = (mtu : ℕ) × (frame : List ℕ) × (after : Vp9Packetizer) × Vp9Sends s mtu frame answer after × AreVp9Answers after answers

-- the payloads of each frame that gave some: the pictures that are sent
abbrev pub pictures_of : List Answer → List (List (List ℕ))
pictures_of [] = []
pictures_of (Ok [] ∷ answers) = pictures_of answers
pictures_of (Ok (payload ∷ payloads) ∷ answers) = (payload ∷ payloads) ∷ pictures_of answers
pictures_of (Err fault ∷ answers) = pictures_of answers

-- ---- numbers

-- the group to which a place belongs, in groups of these sizes; `i` is the first group
abbrev pub group_at : (place : ℕ) → (sizes : List ℕ) → (i : ℕ) → Option ℕ
group_at place [] i = None
group_at place (size ∷ sizes) i = if nat_lt place size then Some i else group_at (place - size) sizes (suc i)

-- the place at which a group begins
abbrev pub start_of : (sizes : List ℕ) → (group : ℕ) → ℕ
start_of [] group = 0
start_of (size ∷ sizes) zero = 0
start_of (size ∷ sizes) (suc group) = size + start_of sizes group

abbrev pub sizes_of : List (List (List ℕ)) → List ℕ
sizes_of [] = []
sizes_of (payloads ∷ pictures) = length payloads ∷ sizes_of pictures

-- the packets have consecutive numbers from the first one on, and the ids of pictures rise by 1
abbrev pub own_sender : (first id : ℕ) → List (List (List ℕ)) → Sender
own_sender first id pictures = record {
  picture_of = λ n. if nat_lt n first then None else group_at (n - first) (sizes_of pictures) 0;
  id_of = λ i. id + i;
  step = 1;
}

-- ---- each packet is one of a sender that sends in order; the last packet of each picture has the marker

abbrev pub payload_at : List (List (List ℕ)) → (picture place : ℕ) → List ℕ
payload_at pictures picture place = get_or (get_or pictures picture []) place []

abbrev pub stored_at : (first : ℕ) → List (List (List ℕ)) → (picture place : ℕ) → Edge → Stored
stored_at first pictures picture place edge = record { number = first + (start_of (sizes_of pictures) picture + place); edge = edge }

pub record IsInOrder (edge_of : Bool → List ℕ → Option Edge) (first id : ℕ) (pictures : List (List (List ℕ))) : Type 0 where
  pub in_order : SendsInOrder (own_sender first id pictures)
  pub media_alone : HasMediaAlone (own_sender first id pictures)
  pub packets : (picture place : ℕ) → place < length (get_or pictures picture []) → (edge : Edge)
      × (edge_of (suc place == length (get_or pictures picture [])) (payload_at pictures picture place) ≡ Some edge)
      × IsOf (own_sender first id pictures) (stored_at first pictures picture place edge)

-- for any frames, and any number of the first packet
abbrev pub Vp8SendsInOrder : Type 0
Vp8SendsInOrder = (first id : ℕ) (answers : List Answer) → id < 2 ^ 15 → AreVp8Answers id answers → IsInOrder vp8_edge first id (pictures_of answers)

abbrev pub Vp9SendsInOrder : Type 0
Vp9SendsInOrder = (first : ℕ) (s : Vp9Packetizer) (answers : List Answer) → s.picture_id < 2 ^ 15 → AreVp9Answers s answers → IsInOrder vp9_edge first s.picture_id (pictures_of answers)
