-- The calls on a receiver of FEC.
use Rattle.std.specs.Prelude.{◌≡◌, ◌⊎◌, ℕ, ◌==◌, if◌then◌else◌, List, Option, Some, None}
use Rattle.codec_payload_fec_receiver.specs.States.{after_tries, forgotten, new_state, next_of, received}
use Rattle.codec_payload_fec_receiver.specs.declared.content.FecSettings.{FecSettings}
use Rattle.codec_payload_c_path.specs.Held.{FecHeld, held_of}
use Rattle.codec_payload_c_path.specs.Writing.{IsUnwritten, PutsPacket, Writing}
use Rattle.codec_payload_c_path.specs.declared.fec_receiver.FecReceiverSettings.{FecReceiverSettings}
use Rattle.codec_payload_c_path.specs.declared.object.PathObject.{PathObject}
use Rattle.codec_payload_c_path.specs.declared.object.PathObject.TheVariants as objects

-- id 0: the extension was not agreed on
abbrev pub id_of : ℕ → Option ℕ
id_of id = if id == 0 then None else Some id

abbrev pub settings_of : FecReceiverSettings → FecSettings
settings_of s = record {
  ssrc = s.ssrc;
  red_type = s.red_type;
  fec_type = s.fec_type;
  late_ids = record {
    transport_number = id_of s.transport_number;
    abs_send_time = id_of s.abs_send_time;
    transmission_offset = id_of s.transmission_offset;
    video_timing = id_of s.video_timing;
  };
  bytes = s.bytes;
}

-- a receiver that holds nothing
abbrev pub new_held : FecReceiverSettings → FecHeld
new_held s = record { receiver = new_state (settings_of s); packet = None }

abbrev pub IsFecReceiverOf : FecReceiverSettings → PathObject → Type 0
IsFecReceiverOf s (objects.FecReceiver r) = held_of r.value ≡ new_held s
IsFecReceiverOf s _ = ⊥

-- Status 0: the datagram is taken. Status 17: memory ran out, and nothing changes
abbrev pub TakesDatagram : List ℕ → FecHeld → ℕ → FecHeld → Type 0
TakesDatagram datagram r status s = ((status ≡ 0) × (s ≡ record r { receiver = received datagram r.receiver })) ⊎ ((status ≡ 17) × (s ≡ r))

-- the packet to fetch: the one that was not fetched yet, or the next one
abbrev pub fetched_as : Option (List ℕ) → FecHeld → FecHeld
fetched_as None r = record { receiver = (next_of r.receiver).state; packet = (next_of r.receiver).packet }
fetched_as (Some packet) r = r

abbrev pub fetched : FecHeld → FecHeld
fetched r = fetched_as r.packet r

-- Status 0: the packet is written. Status 33: the output buffer is too small, and the packet waits. Status 32: there is none
abbrev pub PutsHeld : Option (List ℕ) → FecHeld → ℕ → Writing → FecHeld → Type 0
PutsHeld None r status w s = (status ≡ 32) × IsUnwritten w × (s ≡ r)
PutsHeld (Some packet) r status w s = PutsPacket packet status w × (s ≡ (if status == 0 then record r { packet = None } else r))

-- Status 17: memory ran out, nothing is written, and no packet is lost
abbrev pub FetchesPacket : FecHeld → ℕ → Writing → FecHeld → Type 0
FetchesPacket r status w s =
    PutsHeld (fetched r).packet (fetched r) status w s ⊎ ((status ≡ 17) × IsUnwritten w × (s ≡ record r { receiver = after_tries r.receiver }))

-- nothing is held any more
abbrev pub restarted : FecHeld → FecHeld
restarted r = record { receiver = forgotten r.receiver; packet = None }
