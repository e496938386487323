-- The units that a viewer's receiver releases behind a forwarder that writes packets again on request. The delivery of a packet that was
-- written again counts as a delivery of the datagram that it repeats. Otherwise premises and guarantees are those of a run without a
-- store.
use Rattle.std.specs.Prelude.{◌≡◌, ℕ, nat_lt, if◌then◌else◌, Bool, true, false, List, [], ◌∷◌, ◌++◌, Option, Some, None, Ok, drop, map, take, slice_get}
use Rattle.codec_payload_buffer_runs.specs.SentStream.{AreReadable, SentUnit, units_of_run}
use Rattle.codec_payload_codec.specs.Depacketizers.{DepacketizerState}
use Rattle.codec_payload_payloader.specs.Sending.{Sample}
use Rattle.codec_payload_receiver.specs.Sessions.{Session, session_by}
use Rattle.codec_payload_receiver.specs.declared.receiver.Settings.{Settings}
use Rattle.codec_payload_rtp.specs.RtpPackets.{Packet, packet_bytes}
use Rattle.codec_payload_rtp.specs.RtpReading.{rtp_at}
use Rattle.codec_payload_sending.specs.Senders.{Sending}
use Rattle.codec_payload_sending_forward.specs.Forwarding.{Forward, wrapped}
use Rattle.codec_payload_sending_forward.specs.declared.forwarder.Forwarded.{Forwarded}
use Rattle.codec_payload_sending_history.specs.Packets.{Past}
use Rattle.codec_payload_sending_history.specs.declared.retransmission.RetransmissionStream.{RetransmissionStream}
use Rattle.codec_payload_datagram_runs.specs.HistoryReleases.{AreHeard, delivery_of}
use Rattle.codec_payload_datagram_runs.specs.Releases.{AreOfOneStream, ComeTimely, ComeWithin, ReleasesUnits, delivered, received_steps, sending_steps, sends_after, sent_after, times_sent}
use Rattle.codec_payload_datagram_runs.specs.WireLogs.{KeepsPromises}
use Rattle.codec_payload_datagram_runs.specs.declared.run.DatagramStep.{DatagramStep}
use Rattle.codec_payload_datagram_runs.specs.declared.run.DatagramStep.TheVariants as seen
use Rattle.codec_payload_datagram_runs.specs.declared.run.SentSample.{SentSample}
use Rattle.codec_payload_forward_runs.specs.ForwardReleases.{ForwardsStream, HaveWidths, forwarded_first, keeps_packetizer, viewer_packet, viewer_samples, viewer_sender, viewer_wire}
use Rattle.codec_payload_forward_runs.specs.StoreRuns.{StoreRuns, Stored, begins_with_store}
use Rattle.codec_payload_forward_runs.specs.declared.run.ForwardStep.TheVariants as plain
use Rattle.codec_payload_forward_runs.specs.declared.store_run.StoreStep.{StoreStep}
use Rattle.codec_payload_forward_runs.specs.declared.store_run.StoreStep.TheVariants as steps

-- Which datagrams are repeated

-- what a packet that is written again repeats: the first of the indices that are left, if there was one
abbrev pub repeated_by : List Bool → List ℕ → List ℕ
repeated_by [] left = []
repeated_by (true ∷ found) left = take 1 left
repeated_by (false ∷ found) left = []

abbrev pub left_after : List Bool → List ℕ → List ℕ
left_after [] left = left
left_after (true ∷ found) left = drop 1 left
left_after (false ∷ found) left = left

-- The steps of the viewer's receiver, as steps of a run over one hop. `repeated` has the indices of the datagrams that the packets written
-- again so far repeat, and `left` those of the later ones; the others are as for a run without a store
abbrev pub store_steps : List Sample → (sent : ℕ) → (forwarded repeated : List ℕ) → List StoreStep → List SentSample → List Forwarded → List Bool → (left : List ℕ) → List DatagramStep
store_steps samples sent forwarded repeated [] sends results found left = []
store_steps samples sent forwarded repeated (steps.Plain (plain.Send i) ∷ later) sends results found left =
    seen.Send i ∷ store_steps samples (sent_after sent (slice_get samples i) sends) forwarded repeated later (sends_after (slice_get samples i) sends) results found left
store_steps samples sent forwarded repeated (steps.Plain (plain.Forward k now) ∷ later) sends results found left =
    if nat_lt k sent then store_steps samples sent (forwarded ++ forwarded_first results k) repeated later sends (drop 1 results) found left
    else store_steps samples sent forwarded repeated later sends results found left
store_steps samples sent forwarded repeated (steps.Plain (plain.Deliver j now) ∷ later) sends results found left =
    delivery_of (slice_get forwarded j) now ++ store_steps samples sent forwarded repeated later sends results found left
store_steps samples sent forwarded repeated (steps.Plain (plain.Pop now) ∷ later) sends results found left =
    seen.Pop now ∷ store_steps samples sent forwarded repeated later sends results found left
store_steps samples sent forwarded repeated (steps.Plain plain.Finish ∷ later) sends results found left =
    seen.Finish ∷ store_steps samples sent forwarded repeated later sends results found left
store_steps samples sent forwarded repeated (steps.Keep k ∷ later) sends results found left = store_steps samples sent forwarded repeated later sends results found left
store_steps samples sent forwarded repeated (steps.Request number ∷ later) sends results found left =
    store_steps samples sent forwarded (repeated ++ repeated_by found left) later sends results (drop 1 found) (left_after found left)
store_steps samples sent forwarded repeated (steps.DeliverAgain j now ∷ later) sends results found left =
    delivery_of (slice_get repeated j) now ++ store_steps samples sent forwarded repeated later sends results found left

-- the same for a whole run, whose packets written again repeat the datagrams with these indices
abbrev pub store_steps_of : List Sample → List StoreStep → Stored → List ℕ → List DatagramStep
store_steps_of samples all_steps t repeats = store_steps samples 0 [] [] all_steps t.hops.wire.sends t.hops.answers t.found repeats

-- these bytes are a packet that is written again: as it was, or as a retransmission under some number
abbrev pub IsAgain : Option RetransmissionStream → Packet → List ℕ → Type 0
IsAgain None p bytes = bytes ≡ packet_bytes p
IsAgain (Some stream) p bytes = (next : ℕ) × (rtp_at bytes ≡ Ok (wrapped stream next p))

-- these bytes repeat the datagrams with these indices, as the viewer gets them
abbrev pub AreAgain : Forward → List (List ℕ) → List (List ℕ) → List ℕ → Type 0
AreAgain f datagrams [] [] = Unit {0}
AreAgain f datagrams [] (k ∷ ks) = ⊥
AreAgain f datagrams (bytes ∷ more) [] = ⊥
AreAgain f datagrams (bytes ∷ more) (k ∷ ks) =
    ((datagram : List ℕ) × (p : Packet) × (slice_get datagrams k ≡ Some datagram) × (rtp_at datagram ≡ Ok p) × IsAgain f.settings.retransmissions (viewer_packet f p) bytes)
    × AreAgain f datagrams more ks

-- Premises

-- as for a run without a store; the viewer's receiver reads the retransmissions, if there is a stream of them
pub record IsStoredWithinWindows (samples : List Sample) (all_steps : List StoreStep) (s t : Stored) (repeats : List ℕ) : Type 0 where
  pub forwards : ForwardsStream s.hops.wire.sending s.hops.forwarder
  pub of_codec : keeps_packetizer s.hops.forwarder.settings.codec s.hops.wire.sending.packetizer ≡ true
  pub widths : HaveWidths s.hops.wire.sending s.hops.forwarder
  pub settings : Settings
  pub depacketizer : DepacketizerState
  pub new : session_by settings depacketizer ≡ Ok s.hops.wire.session
  pub one_stream : AreOfOneStream (viewer_sender t.hops.forwarder s.hops.wire.sending) settings depacketizer
  pub heard : AreHeard s.hops.forwarder.settings.retransmissions s.hops.wire.session.stream.retransmission
  pub readable : AreReadable s.hops.wire.sending.packetizer samples
  pub within : ComeWithin settings.forward settings.backward (delivered (received_steps samples 0 (store_steps_of samples all_steps t repeats) t.hops.wire.sends))
  pub timely : ComeTimely s.hops.wire.sending.stream.clock_rate (times_sent s.hops.wire.sending.stream.clock_rate samples (store_steps_of samples all_steps t repeats) t.hops.wire.sends)
      (delivered (received_steps samples 0 (store_steps_of samples all_steps t repeats) t.hops.wire.sends))

-- Guarantees

-- Each packet that was written again repeats a sent datagram, as the viewer gets the datagram. If these deliveries too are within the
-- windows, the receiver releases what it releases in a run over one hop from the viewer's sender
pub record ReleasesFromStore (samples : List Sample) (all_steps : List StoreStep) (s t : Stored) : Type 0 where
  pub repeats : List ℕ
  pub are : AreAgain t.hops.forwarder t.hops.wire.datagrams t.again repeats
  pub released : IsStoredWithinWindows samples all_steps s t repeats
      → ReleasesUnits (viewer_samples t.hops.forwarder s.hops.wire.sending.stream.clock_rate samples) (store_steps_of samples all_steps t repeats)
      (viewer_wire t.hops.forwarder s.hops.wire) (viewer_wire t.hops.forwarder t.hops.wire)
  pub canonical : (within : IsStoredWithinWindows samples all_steps s t repeats)
      → map (λ (u : SentUnit). u.parts) (released within).units
      ≡ units_of_run s.hops.wire.sending.packetizer samples (sending_steps s.hops.wire.sending.mtu (store_steps_of samples all_steps t repeats))
  pub promises : IsStoredWithinWindows samples all_steps s t repeats
      → KeepsPromises (viewer_samples t.hops.forwarder s.hops.wire.sending.stream.clock_rate samples) (store_steps_of samples all_steps t repeats)
      (viewer_wire t.hops.forwarder s.hops.wire) (viewer_wire t.hops.forwarder t.hops.wire)

-- this applies to a run whose store is empty before
abbrev pub ReleasesWithStore : List Sample → List StoreStep → Stored → Stored → Type 0
ReleasesWithStore samples all_steps s t = s.store.packets ≡ [] → ForwardsStream s.hops.wire.sending s.hops.forwarder → ReleasesFromStore samples all_steps s t

-- for every run with a forwarder and a store
abbrev pub ReleaseWithStore : Type 0
ReleaseWithStore =
    (samples : List Sample) (all_steps : List StoreStep) (sender : Sending) (forwarder : Forward) (receiver : Session) (store : Past) (t : Stored)
    → StoreRuns samples all_steps (begins_with_store sender forwarder receiver store) t → ReleasesWithStore samples all_steps (begins_with_store sender forwarder receiver store) t
