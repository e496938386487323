-- No number of a payload of the library's own packetizers is noted.
use Rattle.std.proofs.Common.{◌≡◌, ◌∙◌, ap, sym, subst, ℕ, Bool, List, [], ◌∷◌, Option, Some}
use Rattle.codec_payload_edges.specs.OwnSenders.{IsInOrder, Vp8SendsInOrder, Vp9SendsInOrder, own_sender, pictures_of, stored_at}
use Rattle.codec_payload_edges.specs.Senders.{AreBetweenPictures, AreOf, CarryNoMedia, IsOf, Stored}
use Rattle.codec_payload_edges.specs.declared.edge.Edge.{Edge}
use Rattle.codec_payload_stream_edges.specs.OwnRuns.{AreSentIn, IsSentIn, NoteNoneOf, NoteNoneOfVp8, NoteNoneOfVp9}
use Rattle.codec_payload_stream_edges.proofs.RunLemmas.{note_no_media}

same_edge : (a b : Edge) → Some a ≡ Some b → a ≡ b
same_edge a b same = cc

module _ (edge_of : Bool → List ℕ → Option Edge) (first id : ℕ) (pictures : List (List (List ℕ))) (order : IsInOrder edge_of first id pictures) where
  is_of : (x : Stored) → IsSentIn edge_of first pictures x → IsOf (own_sender first id pictures) x
  is_of x sent =
      let packet = order.packets sent.picture sent.place sent.within in
      let edge : packet.0 ≡ x.edge = same_edge packet.0 x.edge (sym packet.1 ∙ sent.edge) in
      let same : stored_at first pictures sent.picture sent.place packet.0 ≡ x =
      ap (λ (e : Edge). stored_at first pictures sent.picture sent.place e) edge ∙ ap (λ (n : ℕ). record { number = n; edge = x.edge }) (sym sent.number) in
      subst (λ (y : Stored). IsOf (own_sender first id pictures) y) same packet.2

  are_of : (xs : List Stored) → AreSentIn edge_of first pictures xs → AreOf (own_sender first id pictures) xs
  are_of [] sent = tt
  are_of (x ∷ xs) sent = (is_of x sent.0, are_of xs sent.1)

  note_none : AreBetweenPictures → CarryNoMedia → NoteNoneOf edge_of first id pictures
  note_none between carry calls step f reaches next sent n noted =
      note_no_media between carry calls step f reaches next (own_sender first id pictures) order.in_order (λ ssrc is. are_of _ (sent ssrc is)) n noted

pub none_of_vp8 : AreBetweenPictures → CarryNoMedia → Vp8SendsInOrder → NoteNoneOfVp8
none_of_vp8 between carry vp8 first id answers small are = note_none _ first id (pictures_of answers) (vp8 first id answers small are) between carry

pub none_of_vp9 : AreBetweenPictures → CarryNoMedia → Vp9SendsInOrder → NoteNoneOfVp9
none_of_vp9 between carry vp9 first s answers small are = note_none _ first s.picture_id (pictures_of answers) (vp9 first s answers small are) between carry
