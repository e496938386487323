-- The contents of a handle before and after a call on a port with FEC or on a sender of FEC.
use Rattle.std.specs.Prelude.{◌≡◌, ℕ, Bool, true, false, Option, Some, None}
use Rattle.codec_payload_c_path.specs.declared.object.CallerFecPort.{CallerFecPort}
use Rattle.codec_payload_c_path.specs.declared.object.CallerFecSender.{CallerFecSender}
use Rattle.codec_payload_c_path.specs.declared.object.PathObject.{PathObject}
use Rattle.codec_payload_c_path.specs.declared.object.PathObject.TheVariants as objects

-- if the handle holds a port, it holds one afterwards, after this step
abbrev pub StaysFecPort : (CallerFecPort → Type 0) → Option PathObject → Type 0
StaysFecPort Done (Some (objects.FecPort s)) = Done s.value
StaysFecPort Done _ = ⊥

abbrev pub OnFecPort : Option PathObject → (CallerFecPort → CallerFecPort → Type 0) → Option PathObject → Type 0
OnFecPort (Some (objects.FecPort r)) Does after = StaysFecPort (Does r.value) after
OnFecPort _ Does after = Unit {0}

-- the same for a sender
abbrev pub StaysFecSender : (CallerFecSender → Type 0) → Option PathObject → Type 0
StaysFecSender Done (Some (objects.FecSender s)) = Done s.value
StaysFecSender Done _ = ⊥

abbrev pub OnFecSender : Option PathObject → (CallerFecSender → CallerFecSender → Type 0) → Option PathObject → Type 0
OnFecSender (Some (objects.FecSender r)) Does after = StaysFecSender (Does r.value) after
OnFecSender _ Does after = Unit {0}

abbrev pub is_fec_port : PathObject → Bool
is_fec_port (objects.FecPort _) = true
is_fec_port _ = false

abbrev pub is_fec_sender : PathObject → Bool
is_fec_sender (objects.FecSender _) = true
is_fec_sender _ = false

-- A call that creates something. Status 36: the handle is in use, and is unchanged. Status 0: the empty handle holds the new
-- value. Otherwise it stays empty, and the status says why
abbrev pub MakesOrIn : (PathObject → Type 0) → (ℕ → Type 0) → ℕ → Option PathObject → Type 0
MakesOrIn Made Refused status (Some object) = (status ≡ 0) × Made object
MakesOrIn Made Refused status None = Refused status

abbrev pub MakesOr : (PathObject → Type 0) → (ℕ → Type 0) → Option PathObject → ℕ → Option PathObject → Type 0
MakesOr Made Refused (Some object) status after = (status ≡ 36) × (after ≡ Some object)
MakesOr Made Refused None status after = MakesOrIn Made Refused status after
