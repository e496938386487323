-- The edges of a sender that sends its pictures in order, and media alone, note no number.
use Rattle.std.proofs.Common.{◌≡◌, ◌∙◌, refl, sym, ap, subst, ℕ, List, [], ◌∷◌, Bool, true, false, ◌&&◌, Option, Some, None, Result, Ok, Err}
use Rattle.std.specs.Prelude.{IfSome}
use Rattle.std.specs.Option.{option_map}
use Rattle.std.specs.declared.alloc.AllocError.{AllocError}
use Rattle.codec_payload_edges.specs.Pictures.{Pictures, checked, heard}
use Rattle.codec_payload_edges.specs.Senders.{AreOf, FindsNothing, HasMediaAlone, IsOf, Sender, SendsInOrder, Stored, after_calls, stored_in}
use Rattle.codec_payload_edges.specs.Senders.Call.{Checks, Hears}
use Rattle.codec_payload_edges.specs.Senders.{Call as EdgeCall}
use Rattle.codec_payload_edges.specs.declared.edge.Edge.{Edge}
use Rattle.codec_payload_edges.specs.declared.pictures.Between.{Between}
use Rattle.codec_payload_jitter.specs.Receiving.{Receiving}
use Rattle.codec_payload_jitter.specs.declared.outcome.Outcome.{Outcome}
use Rattle.codec_payload_receiver.specs.Sessions.{Session as Receiver}
use Rattle.codec_payload_receiver.specs.declared.receiver.ReceiveError.{ReceiveError}
use Rattle.codec_payload_session_requests.specs.Named.{FollowsEdges}
use Rattle.codec_payload_stream_edges.specs.Brought.{MediaPacket, at_edge, brought_at, can_say, edge_of}
use Rattle.codec_payload_stream_edges.specs.Following.{FollowsEdge, FollowsFor, FollowsIf, FollowsPacket, HearsEdge, HearsFor, NotesGap, NotesLater, begun, checked_for, edge_if, gap_if, has_come, is_of_sender, is_stored, number_in, of_sender_in, sender_in}
use Rattle.codec_payload_stream_edges.specs.declared.followed.Followed.{Followed}
use Rattle.codec_payload_stream_edges.specs.declared.followed.SenderMark.{SenderMark}
use Rattle.codec_payload_stream_edges.specs.declared.rules.EdgeRules.{EdgeRules}

-- no change, and the same receiver
pub receiver_stays : (r t : Receiver) → t ≡ record r { packets = record r.packets { no_media_numbers = t.packets.no_media_numbers } } → t.packets ≡ r.packets → t ≡ r
receiver_stays r t beside same =
    beside ∙ ap (λ (p : Receiving). record r { packets = record r.packets { no_media_numbers = p.no_media_numbers } }) same

-- packets that say nothing of their pictures
plain_edge : (m : SenderMark) (n : ℕ) (stored : Bool) (f : Option Followed) (r : Receiver) (answer : Result Unit AllocError) (g : Option Followed) (t : Receiving)
    → FollowsEdge m n (edge_if stored None) f r.packets answer g t → t ≡ r.packets
plain_edge m n true f r answer g t h = h.2
plain_edge m n false f r answer g t h = h.2

plain_packet : (k : EdgeRules) (stored : Bool) (bytes : List ℕ) (ssrc : ℕ) (brought : Option MediaPacket) (f : Option Followed) (r : Receiver) (answer : Result Unit AllocError) (g : Option Followed) (t : Receiving)
    → brought_at k ssrc bytes ≡ brought → ((m : MediaPacket) → brought_at k ssrc bytes ≡ Some m → edge_of k m ≡ None) → FollowsPacket k brought stored ssrc f r answer g t → t ≡ r.packets
plain_packet k stored bytes ssrc None f r answer g t brings plain h = h.2
plain_packet k stored bytes ssrc (Some m) f r answer g t brings plain h =
    plain_edge (sender_in ssrc r) (number_in r m.number) stored (option_map (checked_for (sender_in ssrc r) (number_in r m.number)) f) r answer g t
    (subst (λ (o : Option Edge). FollowsEdge (sender_in ssrc r) (number_in r m.number) (edge_if stored (at_edge o)) (option_map (checked_for (sender_in ssrc r) (number_in r m.number)) f) r.packets answer g t) (plain m brings) h)

plain_ssrc : (k : EdgeRules) (stored : Bool) (bytes : List ℕ) (ssrc : Option ℕ) (f : Option Followed) (r : Receiver) (answer : Result Unit AllocError) (g : Option Followed) (t : Receiving)
    → ((ssrc : ℕ) (m : MediaPacket) → brought_at k ssrc bytes ≡ Some m → edge_of k m ≡ None) → FollowsFor k bytes stored ssrc f r answer g t → t ≡ r.packets
plain_ssrc k stored bytes None f r answer g t plain h = h.2
plain_ssrc k stored bytes (Some ssrc) f r answer g t plain h = plain_packet k stored bytes ssrc (brought_at k ssrc bytes) f r answer g t refl (plain ssrc) h

pub plain_still : (k : EdgeRules) (bytes : List ℕ) (received : Result Outcome ReceiveError) (f : Option Followed) (r : Receiver) (g : Option Followed) (t : Receiver)
    → ((ssrc : ℕ) (m : MediaPacket) → brought_at k ssrc bytes ≡ Some m → edge_of k m ≡ None) → FollowsEdges k bytes received f r g t → t ≡ r
plain_still k bytes received f r g t plain got = by (can_say k && has_come received) got.follows
  where
    by : (follows : Bool) → FollowsIf follows k bytes (is_stored received) f r got.told g t → t ≡ r
    by false h = h.2
    by true h = receiver_stays r t got.beside (plain_ssrc k (is_stored received) bytes r.ssrc f r got.told g t.packets plain h)

module _ (nothing : FindsNothing) (s : Sender) (order : SendsInOrder s) (alone : HasMediaAlone s) where
  -- the edges heard of packets of the sender alone
  pub record Traced (g : Followed) : Type 0 where
    pub calls : List EdgeCall
    pub is : g.pictures ≡ after_calls calls
    pub are : AreOf s (stored_in calls)

  abbrev pub Knows : Option Followed → Type 0
  Knows f = IfSome f Traced

  begun_traced : (m : SenderMark) → Traced (begun m)
  begun_traced m = record { calls = []; is = refl; are = tt }

  checked_knows : (m : SenderMark) (n : ℕ) (f : Option Followed) → Knows f → Knows (option_map (checked_for m n) f)
  checked_knows m n None known = tt
  checked_knows m n (Some g) known = by (is_of_sender m g) refl
    where
      by : (same : Bool) → is_of_sender m g ≡ same → Knows (Some (checked_for m n g))
      by true e = rw e (record { calls = Checks n ∷ known.calls; is = ap (checked n) known.is; are = known.are })
      by false e = rw e known

  base_traced : (m : SenderMark) (n : ℕ) (f : Option Followed) → Knows f → Traced (of_sender_in m (option_map (checked_for m n) f))
  base_traced m n None known = begun_traced m
  base_traced m n (Some g) known = by (is_of_sender m g) refl
    where
      by : (same : Bool) → is_of_sender m g ≡ same → Traced (of_sender_in m (option_map (checked_for m n) (Some g)))
      by true e = rw (e, e) (record { calls = Checks n ∷ known.calls; is = ap (checked n) known.is; are = known.are })
      by false e = rw (e, e) (begun_traced m)

  none_later : (first : Result Unit AllocError) (mid : Followed) (packets : Receiving) (answer : Result Unit AllocError) (g : Followed) (t : Receiving) → NotesLater None first mid packets answer g t → (g ≡ mid) × (t ≡ packets)
  none_later (Err e) mid packets answer g t notes = (notes.1, notes.2)
  none_later (Ok done) mid packets answer g t notes = by mid.pictures.is_trusted notes
    where
      by : (trusted : Bool) → NotesGap (gap_if trusted None) mid packets answer g t → (g ≡ mid) × (t ≡ packets)
      by true got = (got.1, got.2)
      by false got = (got.1, got.2)

  heard_still : (x : Stored) (base : Followed) → Traced base → IsOf s x → (r : Receiving) (answer : Result Unit AllocError) (g : Followed) (t : Receiving) → HearsEdge x.number x.edge base r answer g t → (t ≡ r) × Traced g
  heard_still x base traced is r answer g t h =
      let none = nothing s traced.calls x order alone (is, traced.are) in
      let before : ((heard x.number x.edge base.pictures).1).before ≡ None = ap (λ (p : Pictures). ((heard x.number x.edge p).1).before) traced.is ∙ none.0 in
      let after : ((heard x.number x.edge base.pictures).1).after ≡ None = ap (λ (p : Pictures). ((heard x.number x.edge p).1).after) traced.is ∙ none.1 in
      let first = subst (λ (o : Option Between). NotesGap o (record base { pictures = (heard x.number x.edge base.pictures).0 }) r h.first h.mid h.packets) before h.before in
      let later = none_later h.first h.mid h.packets answer g t (subst (λ (o : Option Between). NotesLater o h.first h.mid h.packets answer g t) after h.after) in
      let is_after : g ≡ record base { pictures = (heard x.number x.edge base.pictures).0 } = later.0 ∙ first.1 in (
        later.1 ∙ first.2,
        subst Traced (sym is_after) (record { calls = Hears x ∷ traced.calls; is = ap (λ (p : Pictures). (heard x.number x.edge p).0) traced.is; are = (is, traced.are) }),
      )

  -- the packet that a datagram brings is one of the sender
  abbrev pub IsShown : EdgeRules → List ℕ → Receiver → Type 0
  IsShown k bytes r =
      (ssrc : ℕ) (m : MediaPacket) (e : Edge) → r.ssrc ≡ Some ssrc → brought_at k ssrc bytes ≡ Some m → at_edge (edge_of k m) ≡ Some e → IsOf s (record { number = number_in r m.number; edge = e })

  abbrev Stays : Receiver → Option Followed → Receiving → Type 0
  Stays r g t = (t ≡ r.packets) × Knows g

  hears_still : (m : SenderMark) (n : ℕ) (e : Edge) (f : Option Followed) (r : Receiver) (answer : Result Unit AllocError) (g : Option Followed) (t : Receiving) → Knows f → IsOf s (record { number = n; edge = e })
      → HearsFor m n e (option_map (checked_for m n) f) r.packets answer g t → Stays r g t
  hears_still m n e f r answer None t known is h = (h.1, tt)
  hears_still m n e f r answer (Some g) t known is h =
      heard_still (record { number = n; edge = e }) (of_sender_in m (option_map (checked_for m n) f)) (base_traced m n f known) is r.packets answer g t h

  edge_still : (m : SenderMark) (n : ℕ) (stored : Bool) (edge : Option Edge) (f : Option Followed) (r : Receiver) (answer : Result Unit AllocError) (g : Option Followed) (t : Receiving) → Knows f
      → ((e : Edge) → edge ≡ Some e → IsOf s (record { number = n; edge = e }))
      → FollowsEdge m n (edge_if stored edge) (option_map (checked_for m n) f) r.packets answer g t → Stays r g t
  edge_still m n false edge f r answer g t known is h = (h.2, subst Knows (sym h.1) (checked_knows m n f known))
  edge_still m n true None f r answer g t known is h = (h.2, subst Knows (sym h.1) (checked_knows m n f known))
  edge_still m n true (Some e) f r answer g t known is h = hears_still m n e f r answer g t known (is e refl) h

  packet_still : (k : EdgeRules) (stored : Bool) (bytes : List ℕ) (ssrc : ℕ) (brought : Option MediaPacket) (f : Option Followed) (r : Receiver) (answer : Result Unit AllocError) (g : Option Followed) (t : Receiving) → Knows f
      → r.ssrc ≡ Some ssrc → brought_at k ssrc bytes ≡ brought → IsShown k bytes r → FollowsPacket k brought stored ssrc f r answer g t → Stays r g t
  packet_still k stored bytes ssrc None f r answer g t known ssrc_is brings shown h = (h.2, subst Knows (sym h.1) known)
  packet_still k stored bytes ssrc (Some m) f r answer g t known ssrc_is brings shown h =
      edge_still (sender_in ssrc r) (number_in r m.number) stored (at_edge (edge_of k m)) f r answer g t known (λ e is. shown ssrc m e ssrc_is brings is) h

  ssrc_still : (k : EdgeRules) (stored : Bool) (bytes : List ℕ) (ssrc : Option ℕ) (f : Option Followed) (r : Receiver) (answer : Result Unit AllocError) (g : Option Followed) (t : Receiving) → Knows f
      → r.ssrc ≡ ssrc → IsShown k bytes r → FollowsFor k bytes stored ssrc f r answer g t → Stays r g t
  ssrc_still k stored bytes None f r answer g t known ssrc_is shown h = (h.2, subst Knows (sym h.1) known)
  ssrc_still k stored bytes (Some ssrc) f r answer g t known ssrc_is shown h =
      packet_still k stored bytes ssrc (brought_at k ssrc bytes) f r answer g t known ssrc_is refl shown h

  -- the edges follow a datagram of the sender: nothing is noted
  pub edges_still : (k : EdgeRules) (bytes : List ℕ) (received : Result Outcome ReceiveError) (f : Option Followed) (r : Receiver) (g : Option Followed) (t : Receiver) → Knows f → IsShown k bytes r
      → FollowsEdges k bytes received f r g t → (t ≡ r) × Knows g
  edges_still k bytes received f r g t known shown got = by (can_say k && has_come received) got.follows
    where
      by : (follows : Bool) → FollowsIf follows k bytes (is_stored received) f r got.told g t → (t ≡ r) × Knows g
      by false h = (h.2, subst Knows (sym h.1) known)
      by true h =
          let stays = ssrc_still k (is_stored received) bytes r.ssrc f r got.told g t.packets known refl shown h in
          (receiver_stays r t got.beside stays.0, stays.1)
