-- Receivers that hold nothing.
use Rattle.codec_payload_fec_receiver.specs.Runs.{HoldsNothing}
use Rattle.codec_payload_fec_receiver.specs.States.{State, forgotten, new_state}
use Rattle.codec_payload_fec_receiver.specs.declared.content.FecSettings.{FecSettings}

abbrev pub NewHoldsNothing : Type 0
NewHoldsNothing = (settings : FecSettings) → HoldsNothing (new_state settings)

abbrev pub RestartedHoldsNothing : Type 0
RestartedHoldsNothing = (s : State) → HoldsNothing (forgotten s)
