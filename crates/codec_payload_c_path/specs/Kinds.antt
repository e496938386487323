-- The contents of a handle before and after a call.
use Rattle.std.specs.Prelude.{◌≡◌, ◌⊎◌, ℕ, Bool, true, false, Option, Some, None}
use Rattle.codec_payload_bandwidth_offer.specs.Offers.{Offer}
use Rattle.codec_payload_bandwidth_pacer.specs.Resending.{Limit}
use Rattle.codec_payload_bandwidth_path.specs.Paths.{Path}
use Rattle.codec_payload_fec.specs.Stores.{Store}
use Rattle.codec_payload_c_path.specs.Held.{FecHeld, held_of}
use Rattle.codec_payload_c_path.specs.declared.object.PathObject.{PathObject}
use Rattle.codec_payload_c_path.specs.declared.object.PathObject.TheVariants as objects

-- if the handle holds a path, it holds one afterwards, after this step
abbrev pub StaysPath : (Path → Type 0) → Option PathObject → Type 0
StaysPath Done (Some (objects.Path s)) = Done s.value.path
StaysPath Done _ = ⊥

abbrev pub OnPath : Option PathObject → (Path → Path → Type 0) → Option PathObject → Type 0
OnPath (Some (objects.Path r)) Does after = StaysPath (Does r.value.path) after
OnPath _ Does after = Unit {0}

-- the same for a limit of retransmissions
abbrev pub StaysLimit : (Limit → Type 0) → Option PathObject → Type 0
StaysLimit Done (Some (objects.ResendLimit s)) = Done s.value
StaysLimit Done _ = ⊥

abbrev pub OnLimit : Option PathObject → (Limit → Limit → Type 0) → Option PathObject → Type 0
OnLimit (Some (objects.ResendLimit r)) Does after = StaysLimit (Does r.value) after
OnLimit _ Does after = Unit {0}

-- the same for a store of packets
abbrev pub StaysStore : (Store → Type 0) → Option PathObject → Type 0
StaysStore Done (Some (objects.PacketStore s)) = Done s.value
StaysStore Done _ = ⊥

abbrev pub OnStore : Option PathObject → (Store → Store → Type 0) → Option PathObject → Type 0
OnStore (Some (objects.PacketStore r)) Does after = StaysStore (Does r.value) after
OnStore _ Does after = Unit {0}

-- the same for a receiver of FEC
abbrev pub StaysFec : (FecHeld → Type 0) → Option PathObject → Type 0
StaysFec Done (Some (objects.FecReceiver s)) = Done (held_of s.value)
StaysFec Done _ = ⊥

abbrev pub OnFec : Option PathObject → (FecHeld → FecHeld → Type 0) → Option PathObject → Type 0
OnFec (Some (objects.FecReceiver r)) Does after = StaysFec (Does (held_of r.value)) after
OnFec _ Does after = Unit {0}

-- the same for the rate that is offered to a publisher
abbrev pub StaysOffer : (Offer → Type 0) → Option PathObject → Type 0
StaysOffer Done (Some (objects.RateOffer s)) = Done s.value
StaysOffer Done _ = ⊥

abbrev pub OnOffer : Option PathObject → (Offer → Offer → Type 0) → Option PathObject → Type 0
OnOffer (Some (objects.RateOffer r)) Does after = StaysOffer (Does r.value) after
OnOffer _ Does after = Unit {0}

abbrev pub is_path : PathObject → Bool
is_path (objects.Path _) = true
is_path _ = false

abbrev pub is_limit : PathObject → Bool
is_limit (objects.ResendLimit _) = true
is_limit _ = false

abbrev pub is_store : PathObject → Bool
is_store (objects.PacketStore _) = true
is_store _ = false

abbrev pub is_fec_receiver : PathObject → Bool
is_fec_receiver (objects.FecReceiver _) = true
is_fec_receiver _ = false

abbrev pub is_offer : PathObject → Bool
is_offer (objects.RateOffer _) = true
is_offer _ = false

-- status 34: the handle is empty; status 35: it holds another type; the handle is unchanged
abbrev pub Refuses : (PathObject → Bool) → Option PathObject → ℕ → Option PathObject → Type 0
Refuses is_kind None status after = (status ≡ 34) × (after ≡ None)
Refuses is_kind (Some object) status after = is_kind object ≡ false → (status ≡ 35) × (after ≡ Some object)

-- A call that creates something. Status 36: the handle is in use, and is unchanged. Status 0: the empty handle holds the new
-- value. Otherwise it stays empty: status 37 if the arguments are invalid, and 17 only if they are valid
abbrev pub MakesIn : (PathObject → Type 0) → Bool → ℕ → Option PathObject → Type 0
MakesIn Made can status (Some object) = (status ≡ 0) × (can ≡ true) × Made object
MakesIn Made can status None = ((status ≡ 37) × (can ≡ false)) ⊎ ((status ≡ 17) × (can ≡ true))

abbrev pub Makes : (PathObject → Type 0) → Bool → Option PathObject → ℕ → Option PathObject → Type 0
Makes Made can (Some object) status after = (status ≡ 36) × (after ≡ Some object)
Makes Made can None status after = MakesIn Made can status after
