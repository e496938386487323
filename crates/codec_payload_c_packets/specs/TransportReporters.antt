-- The calls on a reporter of the arrivals of a transport: datagrams in, packets of feedback out.
use Rattle.std.specs.Prelude.{◌≡◌, ◌⊎◌, ℕ, ◌*◌, ◌/◌, ◌%◌, ◌&&◌, nat_le, Bool, true, false, List, Option, Some, None, Result, Ok, Err, length}
use Rattle.std.specs.Global.{Vec}
use Rattle.std.specs.Option.{option_map}
use Rattle.std.specs.declared.alloc.AllocError.{AllocError}
use Rattle.codec_payload_feedback.specs.Feedback.{source_by}
use Rattle.codec_payload_feedback.specs.Transport.{IsTransportFeedback, noted, reporter_by, restarted}
use Rattle.codec_payload_feedback.specs.declared.transport.TransportSettings.{TransportSettings}
use Rattle.codec_payload_handle.specs.Bytes.{filled}
use Rattle.codec_payload_handle.specs.declared.object.Object.{Object}
use Rattle.codec_payload_handle.specs.declared.object.Object.TheVariants as objects
use Rattle.codec_payload_handle.specs.declared.object.PeerReporter.{PeerReporter}
use Rattle.codec_payload_c_packets.specs.declared.transport.TransportReporterSettings.{TransportReporterSettings}

-- ---- settings

-- the settings, from C
abbrev pub settings_given : TransportReporterSettings → TransportSettings
settings_given s = record { extension_id = s.extension_id; interval = s.interval; size = s.size; window = s.window }

-- a clock with a rate, an id, a window of 1 to 32,768 numbers, and a name of at most 255 bytes
abbrev pub is_in_range : TransportReporterSettings → List ℕ → Bool
is_in_range s cname = nat_le 1 s.tick_rate && nat_le 1 s.extension_id && nat_le 1 s.window && nat_le s.window 32768 && nat_le (length cname) 255

-- to begin with: a feedback of at most 1,100 bytes each 100 ms about the last 2,048 numbers, alone in its packet
abbrev pub begins_with : ℕ → ℕ → TransportReporterSettings
begins_with id ssrc = record { interval = 100; size = 1100; window = 2048; tick_rate = 1000; ssrc = ssrc; extension_id = id; has_report = false }

-- a reporter to which nothing arrived
pub record IsNewReporter (s : TransportReporterSettings) (cname : List ℕ) (r : PeerReporter) : Type 0 where
  pub reporter : reporter_by (settings_given s) ≡ Ok r.reporter
  pub source : source_by s.ssrc cname s.has_report ≡ Some r.source
  pub tick_rate : r.tick_rate ≡ s.tick_rate
  pub waiting : r.waiting ≡ None

abbrev pub IsPeerReporterOf : TransportReporterSettings → List ℕ → Object → Type 0
IsPeerReporterOf s cname (objects.PeerReporter r) = IsNewReporter s cname r.value
IsPeerReporterOf s cname _ = ⊥

-- ---- datagrams

-- a time as quarters of a millisecond, rounded down, modulo 2^32
abbrev pub quarters_at : ℕ → ℕ → ℕ
quarters_at now rate = (now * 4000 / rate) % 4294967296

-- the arrival is noted; or memory ran out, and nothing changes
abbrev pub NotesDatagram : ℕ → List ℕ → PeerReporter → ℕ → PeerReporter → Type 0
NotesDatagram now datagram r status s =
    ((status ≡ 0) × (s ≡ record r { reporter = noted (quarters_at now r.tick_rate) datagram r.reporter })) ⊎ ((status ≡ 17) × (s ≡ r))

-- ---- packets

-- what a call writes: the output buffer, and the size of the packet, before and after
pub record Writing : Type 0 where
  pub before : List ℕ
  pub bytes : List ℕ
  pub size_before : ℕ
  pub size : ℕ

-- the packet that waits, or else the one that is due
abbrev pub FindsFrom : Option (Vec ℕ) → ℕ → PeerReporter → Option (Vec ℕ) → PeerReporter → Type 0
FindsFrom (Some packet) now r found s = (found ≡ Some packet) × (s ≡ record r { waiting = None })
FindsFrom None now r found s =
    IsTransportFeedback r.source now r.reporter (option_map (λ packet. packet.items) found) s.reporter × (s ≡ record r { reporter = s.reporter })

-- or memory ran out, and nothing changes
abbrev pub Finds : ℕ → PeerReporter → Result (Option (Vec ℕ)) AllocError → PeerReporter → Type 0
Finds now r (Ok found) s = FindsFrom r.waiting now r found s
Finds now r (Err e) s = s ≡ r

-- Status 0: the packet is at the front of the output buffer. Status 33: it waits, since it does not fit. Its size is reported.
abbrev pub HandsIf : Bool → Vec ℕ → ℕ → Writing → PeerReporter → PeerReporter → Type 0
HandsIf true packet status w r s = (status ≡ 0) × (w.bytes ≡ filled packet.items w.before) × (w.size ≡ length packet.items) × (s ≡ r)
HandsIf false packet status w r s = (status ≡ 33) × (w.bytes ≡ w.before) × (w.size ≡ length packet.items) × (s ≡ record r { waiting = Some packet })

abbrev pub HandsOver : Vec ℕ → ℕ → Writing → PeerReporter → PeerReporter → Type 0
HandsOver packet status w r s = HandsIf (nat_le (length packet.items) (length w.before)) packet status w r s

-- Status 32: there is no packet. Status 17: memory ran out. Neither writes anything.
abbrev pub Hands : Result (Option (Vec ℕ)) AllocError → ℕ → Writing → PeerReporter → PeerReporter → Type 0
Hands (Ok (Some packet)) status w r s = HandsOver packet status w r s
Hands (Ok None) status w r s = (status ≡ 32) × (w.bytes ≡ w.before) × (w.size ≡ w.size_before) × (s ≡ r)
Hands (Err e) status w r s = (status ≡ 17) × (w.bytes ≡ w.before) × (w.size ≡ w.size_before) × (s ≡ r)

-- a packet is found, and handed over
pub record PollsPacket (now : ℕ) (r : PeerReporter) (status : ℕ) (w : Writing) (s : PeerReporter) : Type 0 where
  pub found : Result (Option (Vec ℕ)) AllocError
  pub mid : PeerReporter
  pub finds : Finds now r found mid
  pub hands : Hands found status w mid s

-- all numbers are forgotten, and no packet waits
abbrev pub Restarts : PeerReporter → ℕ → PeerReporter → Type 0
Restarts r status s = (status ≡ 0) × (s ≡ record r { reporter = restarted r.reporter; waiting = None })
