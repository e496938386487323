-- The contents of a handle before and after a call.
use Rattle.std.specs.Prelude.{◌≡◌, ◌⊎◌, ℕ, Bool, true, false, Option, Some, None}
use Rattle.codec_payload_feedback_freezes.specs.Freezes.{Watched}
use Rattle.codec_payload_feedback_wait.specs.Waits.{Wait}
use Rattle.codec_payload_core.specs.RedLevels.{Sender as RedSender}
use Rattle.codec_payload_handle.specs.declared.object.Assembler.{Assembler}
use Rattle.codec_payload_handle.specs.declared.object.Object.{Object}
use Rattle.codec_payload_handle.specs.declared.object.Object.TheVariants as objects
use Rattle.codec_payload_handle.specs.declared.object.FrameReceiver.{FrameReceiver}
use Rattle.codec_payload_handle.specs.declared.object.FrameSender.{FrameSender}
use Rattle.codec_payload_handle.specs.declared.object.PacketForwarder.{PacketForwarder}
use Rattle.codec_payload_handle.specs.declared.object.PacketHistory.{PacketHistory}
use Rattle.codec_payload_handle.specs.declared.object.PeerReporter.{PeerReporter}
use Rattle.codec_payload_handle.specs.declared.object.PortSession.{PortSession}
use Rattle.codec_payload_handle.specs.declared.object.StreamReceiver.{StreamReceiver}
use Rattle.codec_payload_handle.specs.declared.object.StreamSender.{StreamSender}
use Rattle.codec_payload_feedback_transport.specs.Sent.{Sent}

-- if the handle holds a packetizer, it holds one afterwards, after this step
abbrev pub StaysFrameSender : (FrameSender → Type 0) → Option Object → Type 0
StaysFrameSender Done (Some (objects.FrameSender s)) = Done s.value
StaysFrameSender Done _ = ⊥

abbrev pub OnFrameSender : Option Object → (FrameSender → FrameSender → Type 0) → Option Object → Type 0
OnFrameSender (Some (objects.FrameSender r)) Does after = StaysFrameSender (Does r.value) after
OnFrameSender _ Does after = Unit {0}

-- the same for a depacketizer
abbrev pub StaysAssembler : (Assembler → Type 0) → Option Object → Type 0
StaysAssembler Done (Some (objects.Assembler s)) = Done s.value
StaysAssembler Done _ = ⊥

abbrev pub OnAssembler : Option Object → (Assembler → Assembler → Type 0) → Option Object → Type 0
OnAssembler (Some (objects.Assembler r)) Does after = StaysAssembler (Does r.value) after
OnAssembler _ Does after = Unit {0}

-- the same for a buffer
abbrev pub StaysFrameReceiver : (FrameReceiver → Type 0) → Option Object → Type 0
StaysFrameReceiver Done (Some (objects.FrameReceiver s)) = Done s.value
StaysFrameReceiver Done _ = ⊥

abbrev pub OnFrameReceiver : Option Object → (FrameReceiver → FrameReceiver → Type 0) → Option Object → Type 0
OnFrameReceiver (Some (objects.FrameReceiver r)) Does after = StaysFrameReceiver (Does r.value) after
OnFrameReceiver _ Does after = Unit {0}

-- the same for a RED sender
abbrev pub StaysRedSender : (RedSender → Type 0) → Option Object → Type 0
StaysRedSender Done (Some (objects.RedSender s)) = Done s.value
StaysRedSender Done _ = ⊥

abbrev pub OnRedSender : Option Object → (RedSender → RedSender → Type 0) → Option Object → Type 0
OnRedSender (Some (objects.RedSender r)) Does after = StaysRedSender (Does r.value) after
OnRedSender _ Does after = Unit {0}

-- the same for a sender of datagrams
abbrev pub StaysStreamSender : (StreamSender → Type 0) → Option Object → Type 0
StaysStreamSender Done (Some (objects.StreamSender s)) = Done s.value
StaysStreamSender Done _ = ⊥

abbrev pub OnStreamSender : Option Object → (StreamSender → StreamSender → Type 0) → Option Object → Type 0
OnStreamSender (Some (objects.StreamSender r)) Does after = StaysStreamSender (Does r.value) after
OnStreamSender _ Does after = Unit {0}

-- the same for a receiver of datagrams
abbrev pub StaysStreamReceiver : (StreamReceiver → Type 0) → Option Object → Type 0
StaysStreamReceiver Done (Some (objects.StreamReceiver s)) = Done s.value
StaysStreamReceiver Done _ = ⊥

abbrev pub OnStreamReceiver : Option Object → (StreamReceiver → StreamReceiver → Type 0) → Option Object → Type 0
OnStreamReceiver (Some (objects.StreamReceiver r)) Does after = StaysStreamReceiver (Does r.value) after
OnStreamReceiver _ Does after = Unit {0}

-- the same for a session
abbrev pub StaysPortSession : (PortSession → Type 0) → Option Object → Type 0
StaysPortSession Done (Some (objects.PortSession s)) = Done s.value
StaysPortSession Done _ = ⊥

abbrev pub OnPortSession : Option Object → (PortSession → PortSession → Type 0) → Option Object → Type 0
OnPortSession (Some (objects.PortSession r)) Does after = StaysPortSession (Does r.value) after
OnPortSession _ Does after = Unit {0}

-- the same for a history of sent packets
abbrev pub StaysPacketHistory : (PacketHistory → Type 0) → Option Object → Type 0
StaysPacketHistory Done (Some (objects.PacketHistory s)) = Done s.value
StaysPacketHistory Done _ = ⊥

abbrev pub OnPacketHistory : Option Object → (PacketHistory → PacketHistory → Type 0) → Option Object → Type 0
OnPacketHistory (Some (objects.PacketHistory r)) Does after = StaysPacketHistory (Does r.value) after
OnPacketHistory _ Does after = Unit {0}

-- the same for a forwarder to a viewer
abbrev pub StaysPacketForwarder : (PacketForwarder → Type 0) → Option Object → Type 0
StaysPacketForwarder Done (Some (objects.PacketForwarder s)) = Done s.value
StaysPacketForwarder Done _ = ⊥

abbrev pub OnPacketForwarder : Option Object → (PacketForwarder → PacketForwarder → Type 0) → Option Object → Type 0
OnPacketForwarder (Some (objects.PacketForwarder r)) Does after = StaysPacketForwarder (Does r.value) after
OnPacketForwarder _ Does after = Unit {0}

-- the same for a limit of waiting that follows how late missing packets arrive
abbrev pub StaysAdaptiveWait : (Wait → Type 0) → Option Object → Type 0
StaysAdaptiveWait Done (Some (objects.AdaptiveWait s)) = Done s.value
StaysAdaptiveWait Done _ = ⊥

abbrev pub OnAdaptiveWait : Option Object → (Wait → Wait → Type 0) → Option Object → Type 0
OnAdaptiveWait (Some (objects.AdaptiveWait r)) Does after = StaysAdaptiveWait (Does r.value) after
OnAdaptiveWait _ Does after = Unit {0}

-- the same for a counter of freezes
abbrev pub StaysFreezes : (Watched → Type 0) → Option Object → Type 0
StaysFreezes Done (Some (objects.Freezes s)) = Done s.value
StaysFreezes Done _ = ⊥

abbrev pub OnFreezes : Option Object → (Watched → Watched → Type 0) → Option Object → Type 0
OnFreezes (Some (objects.Freezes r)) Does after = StaysFreezes (Does r.value) after
OnFreezes _ Does after = Unit {0}

-- the same for a reporter of the arrivals of a transport
abbrev pub StaysPeerReporter : (PeerReporter → Type 0) → Option Object → Type 0
StaysPeerReporter Done (Some (objects.PeerReporter s)) = Done s.value
StaysPeerReporter Done _ = ⊥

abbrev pub OnPeerReporter : Option Object → (PeerReporter → PeerReporter → Type 0) → Option Object → Type 0
OnPeerReporter (Some (objects.PeerReporter r)) Does after = StaysPeerReporter (Does r.value) after
OnPeerReporter _ Does after = Unit {0}

-- the same for the packets that were sent on a transport
abbrev pub StaysSentPackets : (Sent → Type 0) → Option Object → Type 0
StaysSentPackets Done (Some (objects.SentPackets s)) = Done s.value
StaysSentPackets Done _ = ⊥

abbrev pub OnSentPackets : Option Object → (Sent → Sent → Type 0) → Option Object → Type 0
OnSentPackets (Some (objects.SentPackets r)) Does after = StaysSentPackets (Does r.value) after
OnSentPackets _ Does after = Unit {0}

abbrev pub is_frame_sender : Object → Bool
is_frame_sender (objects.FrameSender _) = true
is_frame_sender _ = false

abbrev pub is_assembler : Object → Bool
is_assembler (objects.Assembler _) = true
is_assembler _ = false

abbrev pub is_frame_receiver : Object → Bool
is_frame_receiver (objects.FrameReceiver _) = true
is_frame_receiver _ = false

abbrev pub is_red_sender : Object → Bool
is_red_sender (objects.RedSender _) = true
is_red_sender _ = false

abbrev pub is_stream_sender : Object → Bool
is_stream_sender (objects.StreamSender _) = true
is_stream_sender _ = false

abbrev pub is_stream_receiver : Object → Bool
is_stream_receiver (objects.StreamReceiver _) = true
is_stream_receiver _ = false

abbrev pub is_port_session : Object → Bool
is_port_session (objects.PortSession _) = true
is_port_session _ = false

abbrev pub is_packet_history : Object → Bool
is_packet_history (objects.PacketHistory _) = true
is_packet_history _ = false

abbrev pub is_packet_forwarder : Object → Bool
is_packet_forwarder (objects.PacketForwarder _) = true
is_packet_forwarder _ = false

abbrev pub is_adaptive_wait : Object → Bool
is_adaptive_wait (objects.AdaptiveWait _) = true
is_adaptive_wait _ = false

abbrev pub is_freezes : Object → Bool
is_freezes (objects.Freezes _) = true
is_freezes _ = false

abbrev pub is_peer_reporter : Object → Bool
is_peer_reporter (objects.PeerReporter _) = true
is_peer_reporter _ = false

abbrev pub is_sent_packets : Object → Bool
is_sent_packets (objects.SentPackets _) = true
is_sent_packets _ = false

-- status 34: the handle is empty; status 35: it holds another type; the handle is unchanged
abbrev pub Refuses : (Object → Bool) → Option Object → ℕ → Option Object → Type 0
Refuses is_kind None status after = (status ≡ 34) × (after ≡ None)
Refuses is_kind (Some object) status after = is_kind object ≡ false → (status ≡ 35) × (after ≡ Some object)

-- A call that creates something. Status 36: the handle is in use, and is unchanged. Status 0: the empty handle holds the new
-- value. Otherwise it stays empty: status 37 if the arguments are invalid, and 17 only if they are valid
abbrev pub MakesIn : (Object → Type 0) → Bool → ℕ → Option Object → Type 0
MakesIn Made can status (Some object) = (status ≡ 0) × (can ≡ true) × Made object
MakesIn Made can status None = ((status ≡ 37) × (can ≡ false)) ⊎ ((status ≡ 17) × (can ≡ true))

abbrev pub Makes : (Object → Type 0) → Bool → Option Object → ℕ → Option Object → Type 0
Makes Made can (Some object) status after = (status ≡ 36) × (after ≡ Some object)
Makes Made can None status after = MakesIn Made can status after
