-- What a handle of a receiver of FEC holds.
use Rattle.std.specs.Prelude.{ℕ, List, Option}
use Rattle.std.specs.Option.{option_map}
use Rattle.codec_payload_fec_receiver.specs.States.{State}
use Rattle.codec_payload_c_path.specs.declared.object.CallerFec.{CallerFec}

-- the receiver, and a packet that it handed out and that the caller has not fetched yet
pub record FecHeld : Type 0 where
  pub receiver : State
  pub packet : Option (List ℕ)

abbrev pub held_of : CallerFec → FecHeld
held_of c = record { receiver = c.receiver; packet = option_map (λ v. v.items) c.packet }
