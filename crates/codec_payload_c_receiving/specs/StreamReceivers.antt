-- The calls on a receiver of datagrams.
use denote.RawPtr.{Ptr}
use Rattle.std.specs.Prelude.{◌≡◌, ◌≢◌, ◌⊎◌, ◌<◌, ◌≤◌, ℕ, ◌+◌, ◌-◌, ◌%◌, ◌^◌, ◌&&◌, ◌||◌, ◌==◌, not, nat_le, nat_lt, if◌then◌else◌, Bool, true, false, Option, Some, None, Result, Ok, Err, List, [], is_some, length, drop, ◌++◌}
use Rattle.std.specs.Option.{unwrap_or}
use Rattle.std.specs.declared.alloc.AllocError.{AllocError}
use Rattle.codec_payload_core.specs.Depacketizers.{DepacketizerState}
use Rattle.codec_payload_jitter.specs.Missing.{missing_numbers}
use Rattle.codec_payload_jitter.specs.declared.waiting.WaitLimits.{WaitLimits}
use Rattle.codec_payload_jitter.specs.declared.outcome.Outcome.{Outcome}
use Rattle.codec_payload_jitter.specs.declared.outcome.Outcome.TheVariants as outcomes
use Rattle.codec_payload_keyframes.specs.declared.unit_gate.FromKeyframe.{FromKeyframe}
use Rattle.codec_payload_keyframes.specs.declared.unit_gate.FromKeyframe.TheVariants as modes
use Rattle.codec_payload_datagrams.specs.Kinds.{retransmitted_under}
use Rattle.codec_payload_receiver.specs.Bounds.{counters_with}
use Rattle.codec_payload_receiver.specs.Pops.{PopsGated, is_large}
use Rattle.codec_payload_receiver.specs.Sessions.{Finishes, ReceivesBytes, Session, restarted, session_by}
use Rattle.codec_payload_receiver.specs.declared.receiver.Counters.{Counters}
use Rattle.codec_payload_receiver.specs.declared.receiver.ReceiveError.{ReceiveError}
use Rattle.codec_payload_receiver.specs.declared.receiver.ReceiveError.TheVariants as errors
use Rattle.codec_payload_receiver.specs.declared.receiver.RedSettings.{RedSettings}
use Rattle.codec_payload_datagrams.specs.declared.kinds.Retransmission.{Retransmission}
use Rattle.codec_payload_receiver.specs.declared.receiver.Settings.{Settings}
use Rattle.codec_payload_numbers.specs.declared.statistics.ReceptionReport.{ReceptionReport}
use Rattle.codec_payload_base.specs.declared.wire.Ticks.{Ticks}
use Rattle.codec_payload_core.specs.Faults.{fault_number}
use Rattle.codec_payload_core.specs.Release.{Release}
use Rattle.codec_payload_core.specs.declared.buffer.RtpMeta.{RtpMeta}
use Rattle.codec_payload_core.specs.declared.error.PacketError.{PacketError}
use Rattle.codec_payload_core.specs.declared.error.PacketError.TheVariants as faults
use Rattle.codec_payload_handle.specs.Bytes.{filled}
use Rattle.codec_payload_handle.specs.Popping.{Answer, AnswersPopOrRefusal, Comes}
use Rattle.codec_payload_handle.specs.Units.{TellsUnit, TellsValues, refused_unit, too_large_unit}
use Rattle.codec_payload_handle.specs.declared.extension_values.ExtensionValues.{ExtensionValues as CValues}
use Rattle.codec_payload_handle.specs.declared.object.Object.{Object}
use Rattle.codec_payload_handle.specs.declared.object.Object.TheVariants as objects
use Rattle.codec_payload_handle.specs.declared.object.StreamReceiver.{StreamReceiver}
use Rattle.codec_payload_handle.specs.declared.unit.Unit.{Unit as CUnit}
use Rattle.codec_payload_handle.specs.Ids.{id_given, ids_given}
use Rattle.codec_payload_handle.specs.Numbers.{given_if}
use Rattle.codec_payload_handle.specs.RtpFaults.{rtp_status}
use Rattle.codec_payload_c_receiving.specs.declared.receiver.WaitLimits.{WaitLimits as CWaitLimits}
use Rattle.codec_payload_c_receiving.specs.declared.receiver.ReceiverCountsInfo.{ReceiverCountsInfo}
use Rattle.codec_payload_c_receiving.specs.declared.receiver.ReceiverSettings.{ReceiverSettings}
use Rattle.codec_payload_c_receiving.specs.declared.receiver.ReportInfo.{ReportInfo}
use Rattle.std_alloc.specs.Vec.{vec_ptr}

-- RED, if it is used: its payload type differs from the stream's, and the step is in range
abbrev pub red_in_range : ReceiverSettings → Bool
red_in_range s = not s.has_red || (nat_le s.red_payload_type 127 && not (s.red_payload_type == s.payload_type) && nat_le 1 s.red_step && nat_le s.red_step 16383)

-- retransmitted RED packets, if there are any
abbrev pub red_rtx_in_range : ReceiverSettings → Bool
red_rtx_in_range s = not s.has_red || not s.has_red_rtx || nat_le s.red_rtx_payload_type 127

-- retransmissions, if there are any
abbrev pub rtx_in_range : ReceiverSettings → Bool
rtx_in_range s = not s.has_rtx || nat_le s.rtx_payload_type 127

-- the payload types, the limit, the windows and the rates are in range
abbrev pub is_in_range : ReceiverSettings → Bool
is_in_range s =
    nat_le s.payload_type 127 && nat_le 1 s.limit && nat_le s.limit 65536
    && nat_lt 0 s.forward && nat_le s.forward 32768 && nat_lt s.backward s.forward
    && nat_lt 0 s.tick_rate && nat_le s.from_keyframe 2 && red_rtx_in_range s && red_in_range s && rtx_in_range s

-- the largest number means no bound
abbrev pub bound_given : ℕ → Option ℕ
bound_given most = if most == 2 ^ 64 - 1 then None else Some most

abbrev pub wait_limits_set : ReceiverSettings → WaitLimits
wait_limits_set s = record { hold_back = bound_given s.hold_back; start = s.start; max_wait = given_if s.has_max_wait s.max_wait }

-- the wait limits, from C
abbrev pub wait_limits_given : CWaitLimits → WaitLimits
wait_limits_given p = record { hold_back = bound_given p.hold_back; start = p.start; max_wait = given_if p.has_max_wait p.max_wait }

abbrev pub red_set : ReceiverSettings → Option RedSettings
red_set s = if s.has_red then Some (record { payload_type = s.red_payload_type; step = s.red_step; retransmission = given_if s.has_red_rtx s.red_rtx_payload_type }) else None

abbrev pub rtx_set : ReceiverSettings → Option Retransmission
rtx_set s = if s.has_rtx then Some (record { ssrc = s.rtx_ssrc; payload_type = s.rtx_payload_type }) else None

-- what happens to units that a decoder cannot show
abbrev pub from_keyframe_numbered : ℕ → FromKeyframe
from_keyframe_numbered n = if n == 0 then modes.Off else (if n == 1 then modes.Mark else modes.Drop)

-- the settings of a receiver, from C
pub record AreSettings (s : ReceiverSettings) (types : List ℕ) (t : Settings) : Type 0 where
  pub payload_type : t.payload_type ≡ s.payload_type
  pub no_media : t.no_media.items ≡ types
  pub ssrc : t.ssrc ≡ given_if s.has_ssrc s.ssrc
  pub red : t.red ≡ red_set s
  pub retransmission : t.retransmission ≡ rtx_set s
  pub ids : t.extension_ids ≡ ids_given s.extension_ids
  pub clock_rate : t.clock_rate ≡ s.spec.rate
  pub tick_rate : t.tick_rate ≡ s.tick_rate
  pub wait_limits : t.wait_limits ≡ wait_limits_set s
  pub limit : t.limit ≡ s.limit
  pub max_unit : t.max_unit ≡ bound_given s.max_unit
  pub forward : t.forward ≡ s.forward
  pub backward : t.backward ≡ s.backward
  pub from_keyframe : t.from_keyframe ≡ from_keyframe_numbered s.from_keyframe
  pub dependency_descriptor : t.dependency_descriptor ≡ id_given s.dependency_descriptor

-- a new receiver with these settings
pub record IsNewStream (s : ReceiverSettings) (no_media : List ℕ) (depacketizer : Option DepacketizerState) (r : StreamReceiver) : Type 0 where
  pub settings : Settings
  pub are : AreSettings s no_media settings
  pub by : DepacketizerState
  pub depacketizer_is : depacketizer ≡ Some by
  pub made : session_by settings by ≡ Ok r.receiver
  pub waiting : r.waiting ≡ None
  pub lent : r.lent.items ≡ []
  pub taken : r.taken ≡ None

abbrev pub IsStreamReceiverOf : ReceiverSettings → List ℕ → Option DepacketizerState → Object → Type 0
IsStreamReceiverOf s no_media depacketizer (objects.StreamReceiver r) = IsNewStream s no_media depacketizer r.value
IsStreamReceiverOf s no_media depacketizer _ = ⊥

-- the numbers of outcomes
abbrev pub outcome_number : Outcome → ℕ
outcome_number outcomes.Held = 0
outcome_number outcomes.HeldAndEvicted = 1
outcome_number outcomes.Duplicate = 2
outcome_number outcomes.Late = 3
outcome_number outcomes.Suspect = 4
outcome_number (outcomes.Restarted true) = 5
outcome_number (outcomes.Restarted false) = 6
outcome_number outcomes.NoMedia = 7
outcome_number outcomes.OtherStream = 8
outcome_number outcomes.Rtcp = 9
outcome_number outcomes.Undecided = 10

-- the status and outcome of an answer
abbrev pub Tells : Result Outcome ReceiveError → ℕ → (before after : ℕ) → Type 0
Tells (Ok outcome) status before after = (status ≡ 0) × (after ≡ outcome_number outcome)
Tells (Err errors.OutOfMemory) status before after = (status ≡ 17) × (after ≡ before)
Tells (Err (errors.Rtp e)) status before after = (status ≡ rtp_status e) × (after ≡ before)
Tells (Err errors.Red) status before after = (status ≡ 14) × (after ≡ before)
Tells (Err errors.Retransmission) status before after = (status ≡ 49) × (after ≡ before)
Tells (Err errors.BlocksOutOfMemory) status before after = (status ≡ 17) × (after ≡ before)

-- a datagram is received
pub record Takes (r : StreamReceiver) (now : ℕ) (bytes : List ℕ) (status before after : ℕ) (s : StreamReceiver) : Type 0 where
  pub at : Ticks
  pub at_is : at.0 ≡ now
  pub answer : Result Outcome ReceiveError
  pub receives : ReceivesBytes at bytes r.receiver answer s.receiver
  pub tells : Tells answer status before after
  pub waiting : s.waiting ≡ r.waiting
  pub lent : s.lent ≡ r.lent
  pub taken : s.taken ≡ r.taken

-- a pop at that time, and whether its unit has more bytes than the settings allow
abbrev pub PopsAt : (large : Bool) → ℕ → Session → Answer → Session → Type 0
PopsAt large now s answer t = PopsGated now s answer t × (large ≡ is_large s.bound.most answer)

-- the time of a unit without wrapping, as the receiver has it
abbrev pub time_or : ℕ → Option ℕ → ℕ
time_or time None = time
time_or time (Some t) = t

-- a description with the extended RTP time of the unit that a receiver released, and whether it is decodable
abbrev pub judged_by : Session → CUnit → CUnit
judged_by s unit = record unit { rtp_time = time_or unit.rtp_time s.time; decodable = s.gates.gate.shows; keyframe = s.gates.is_keyframe }

-- the description of a unit that a receiver released: with its extended RTP time, and whether it is decodable
abbrev pub TellsJudged : Session → Release → CUnit → Type 0
TellsJudged s u unit =
    TellsUnit u (record unit { rtp_time = u.time.numer; decodable = true; keyframe = false })
    × (unit.rtp_time ≡ time_or u.time.numer s.time) × (unit.decodable ≡ s.gates.gate.shows) × (unit.keyframe ≡ s.gates.is_keyframe)

-- A unit that waited is described. Status 0: its bytes are at the front of the output buffer, and it is the latest popped unit, whose packets are kept.
-- Status 33: the output buffer is too small, and the unit still waits
pub record HandsOver (u : Release) (status : ℕ) (unit : CUnit) (before bytes : List ℕ) (r s : StreamReceiver) : Type 0 where
  pub tells : TellsJudged r.receiver u unit
  pub receiver : s.receiver ≡ r.receiver
  pub answers : (status ≡ 0) ⊎ (status ≡ 33)
  pub ok : status ≡ 0 → (length u.bytes ≤ length before) × (bytes ≡ filled u.bytes before) × (s.waiting ≡ None) × (s.taken ≡ Some u.metas)
  pub too_small : status ≡ 33 → (length before < length u.bytes) × (bytes ≡ before) × (s.waiting ≡ Some u) × (s.taken ≡ r.taken)

-- the description of a unit; if the caller gets its bytes, it becomes the latest popped unit, and its packets are kept
abbrev pub TellsAndTakes : ℕ → StreamReceiver → Release → CUnit → Type 0
TellsAndTakes status s u unit = TellsJudged s.receiver u unit × (status ≡ 0 → s.taken ≡ Some u.metas)

-- the next unit, refused frame or unit that is too large of a receiver; without a unit, the packets of the latest popped unit stay
abbrev pub PopsUnit : StreamReceiver → ℕ → ℕ → (unit_before unit : CUnit) (before bytes : List ℕ) → StreamReceiver → Type 0
PopsUnit r now status unit_before unit before bytes s =
    AnswersPopOrRefusal (s.receiver ≡ r.receiver) (λ answer. PopsAt false now r.receiver answer s.receiver)
    (λ release. PopsAt true now r.receiver (Some (Ok release)) s.receiver) (TellsAndTakes status s) status
    (record { waited = r.waiting; waits = s.waiting; unit_before = unit_before; unit = unit; before = before; bytes = bytes })
    × (status ≢ 0 → s.taken ≡ r.taken) × (status ≡ 0 → unit.fault ≢ 0 → s.taken ≡ r.taken)

-- A unit that waited is described and lent: `at` is where its bytes are, and it is the latest popped unit, whose packets are kept
pub record LendsWaiting (u : Release) (unit : CUnit) (at : Ptr) (r s : StreamReceiver) : Type 0 where
  pub tells : TellsJudged r.receiver u unit
  pub receiver : s.receiver ≡ r.receiver
  pub place : at ≡ vec_ptr s.lent
  pub bytes : s.lent.items ≡ u.bytes
  pub none_waits : s.waiting ≡ None
  pub taken : s.taken ≡ Some u.metas

-- A unit waited, or a pop gives it now. It is described and lent: `at` is where its bytes are, in the receiver's memory, and it is the latest popped unit, whose packets are kept
pub record LendsRelease (r : StreamReceiver) (now : ℕ) (unit : CUnit) (at : Ptr) (s : StreamReceiver) : Type 0 where
  pub release : Release
  pub comes : Comes (s.receiver ≡ r.receiver) (λ answer. PopsAt false now r.receiver answer s.receiver) r.waiting release
  pub tells : TellsJudged s.receiver release unit
  pub place : at ≡ vec_ptr s.lent
  pub bytes : s.lent.items ≡ release.bytes
  pub none_waits : s.waiting ≡ None
  pub taken : s.taken ≡ Some release.metas

-- nothing is lent: the place that the caller has is unchanged, and the packets of the latest popped unit stay
pub record LendsNothing (at_before at : Ptr) (r s : StreamReceiver) : Type 0 where
  pub place : at ≡ at_before
  pub none_waited : r.waiting ≡ None
  pub none_waits : s.waiting ≡ None
  pub taken : s.taken ≡ r.taken

-- a pop refused a frame: its fault, which is not out of memory, is the description
pub record LendsRefusal (r : StreamReceiver) (now : ℕ) (unit : CUnit) (s : StreamReceiver) : Type 0 where
  pub fault : PacketError
  pub not_memory : fault_number fault ≢ 17
  pub tells : unit ≡ refused_unit fault
  pub pops : PopsAt false now r.receiver (Some (Err fault)) s.receiver

-- a pop gave a unit that is too large: that is the description
pub record LendsTooLarge (r : StreamReceiver) (now : ℕ) (unit : CUnit) (s : StreamReceiver) : Type 0 where
  pub release : Release
  pub pops : PopsAt true now r.receiver (Some (Ok release)) s.receiver
  pub tells : unit ≡ too_large_unit

-- the next unit of a receiver is lent, or the next refused frame or unit that is too large is described, by the status and the fault of the description
pub record LendsUnit (r : StreamReceiver) (now status : ℕ) (unit_before unit : CUnit) (at_before at : Ptr) (s : StreamReceiver) : Type 0 where
  pub ok : status ≡ 0 → unit.fault ≡ 0 → LendsRelease r now unit at s
  pub refused : status ≡ 0 → unit.fault ≢ 0 → unit.fault ≢ 76 → LendsRefusal r now unit s
  pub too_large : status ≡ 0 → unit.fault ≡ 76 → LendsTooLarge r now unit s
  pub none : status ≡ 32 → PopsAt false now r.receiver None s.receiver
  pub no_memory : status ≢ 0 → status ≢ 32 → (status ≡ 17) × PopsAt false now r.receiver (Some (Err faults.OutOfMemory)) s.receiver
  pub without_unit : status ≡ 0 → unit.fault ≢ 0 → LendsNothing at_before at r s
  pub without_event : status ≢ 0 → (unit ≡ unit_before) × LendsNothing at_before at r s

-- the values of the latest popped unit, which has these packets
abbrev pub TellsTaken : Option (List RtpMeta) → ℕ → (before after : CValues) → Type 0
TellsTaken None status before after = (status ≡ 32) × (after ≡ before)
TellsTaken (Some metas) status before after = (status ≡ 0) × TellsValues metas after

-- Status 0: the stream has ended. Status 17: memory ran out for a packet that waits for the choice of the stream, and nothing changes
abbrev pub status_of_end : Result Unit AllocError → ℕ
status_of_end (Ok done) = 0
status_of_end (Err e) = 17

pub record EndsWith (status : ℕ) (s t : Session) : Type 0 where
  pub done : Result Unit AllocError
  pub finishes : Finishes s done t
  pub status_is : status ≡ status_of_end done

-- these counters, of a receiver with this SSRC that holds so many packets, and for which no unit waits
abbrev pub counts_from : Counters → (held : ℕ) → (ssrc : Option ℕ) → ReceiverCountsInfo
counts_from k held ssrc = record {
  received = k.received;
  rtcp = k.rtcp;
  malformed = k.malformed;
  other_streams = k.other_streams;
  undecided = k.undecided;
  no_media = k.packets.no_media;
  duplicates = k.packets.duplicates;
  late = k.packets.late;
  suspect = k.packets.suspect;
  evicted = k.packets.evicted;
  released = k.packets.released;
  left = k.packets.left;
  incomplete = k.packets.incomplete;
  skipped = k.packets.skipped;
  refused = k.packets.refused;
  restarts = k.packets.restarts;
  retransmitted = k.packets.retransmitted;
  recovered = k.packets.recovered;
  units = k.packets.units;
  undecodable = k.undecodable;
  too_large = k.too_large;
  held = held;
  ssrc = unwrap_or ssrc 0;
  has_ssrc = is_some ssrc;
  waiting = false;
}

-- the counters of a receiver, and whether a unit waits
pub record TellsCounts (s : Session) (waits : Bool) (c : ReceiverCountsInfo) : Type 0 where
  pub received : c.received ≡ (s.arrived.received + length s.choice.candidates) % 2 ^ 64
  pub rtcp : c.rtcp ≡ s.arrived.rtcp
  pub malformed : c.malformed ≡ s.arrived.malformed
  pub other_streams : c.other_streams ≡ s.arrived.other_streams
  pub undecided : c.undecided ≡ length s.choice.candidates
  pub no_media : c.no_media ≡ s.packets.counters.no_media
  pub duplicates : c.duplicates ≡ s.packets.counters.duplicates
  pub late : c.late ≡ s.packets.counters.late
  pub suspect : c.suspect ≡ s.packets.counters.suspect
  pub evicted : c.evicted ≡ s.packets.counters.evicted
  pub released : c.released ≡ (counters_with s.bound s.packets.counters).released
  pub left : c.left ≡ (counters_with s.bound s.packets.counters).left
  pub incomplete : c.incomplete ≡ s.packets.counters.incomplete
  pub skipped : c.skipped ≡ s.packets.counters.skipped
  pub refused : c.refused ≡ (counters_with s.bound s.packets.counters).refused
  pub restarts : c.restarts ≡ s.packets.counters.restarts
  pub retransmitted : c.retransmitted ≡ s.packets.counters.retransmitted
  pub recovered : c.recovered ≡ s.packets.counters.recovered
  pub units : c.units ≡ (counters_with s.bound s.packets.counters).units
  pub too_large : c.too_large ≡ s.bound.units
  pub undecodable : c.undecodable ≡ s.gates.undecodable
  pub held : c.held ≡ length s.packets.buffer.held
  pub waiting : c.waiting ≡ waits
  pub has_ssrc : c.has_ssrc ≡ is_some s.ssrc
  pub ssrc : c.ssrc ≡ unwrap_or s.ssrc 0

-- the fields of a receiver report
abbrev pub TellsReport : Option ReceptionReport → ℕ → (before after : ReportInfo) → Type 0
TellsReport None status before after = (status ≡ 32) × (after ≡ before)
TellsReport (Some x) status before after =
    (status ≡ 0) × (after ≡ record { cumulative_lost = x.cumulative_lost; highest = x.highest; jitter = x.jitter; fraction_lost = x.fraction_lost })

-- the sender has restarted under this SSRC, and packets are retransmitted under the other SSRC
abbrev pub restarted_as : (ssrc rtx_ssrc : ℕ) → Session → Session
restarted_as ssrc rtx_ssrc s = restarted (Some ssrc) (record s { stream = retransmitted_under (Some rtx_ssrc) s.stream; named = Some ssrc })

-- the wait limits are replaced
abbrev pub waiting_by : WaitLimits → Session → Session
waiting_by wait_limits s = record s { packets = record s.packets { wait_limits = wait_limits } }

-- the missing numbers, as many as there is room for; the rest of the room is unchanged
pub record TellsMissing (r : StreamReceiver) (before : List ℕ) (told : ℕ) (after : List ℕ) : Type 0 where
  pub count : told ≡ length (missing_numbers r.receiver.packets (length before))
  pub numbers : after ≡ missing_numbers r.receiver.packets (length before) ++ drop told before
