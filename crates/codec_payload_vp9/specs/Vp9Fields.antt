-- The state of a VP9 depacketizer, without its place in memory.
use Rattle.std.specs.Prelude.{ℕ, Bool, false, List, [], ◌∷◌, Option, None, map}
use Rattle.codec_payload_vp9.specs.declared.vp9.depacketizer.Vp9Depacketizer.{Vp9Depacketizer}

-- the groups of pictures: TID(3) U R(2) and two reserved bits, and R differences each
pub record Groups : Type 0 where
  pub tids : List ℕ
  pub us : List Bool
  pub differences : List (List ℕ)

-- the fields, by the names that RFC 9628, section 4.2 gives them
pub record Fields : Type 0 where
  pub i : Bool
  pub p : Bool
  pub l : Bool
  pub f : Bool
  pub b : Bool
  pub e : Bool
  pub v : Bool
  pub z : Bool
  pub picture_id : ℕ
  pub extended_pid : Option ℕ
  pub tid : ℕ
  pub u : Bool
  pub sid : ℕ
  pub d : Bool
  pub pdiff : List ℕ
  pub tl0picidx : ℕ
  pub extended_tl0picidx : Option ℕ
  pub ns : ℕ
  pub y : Bool
  pub g : Bool
  pub ng : ℕ
  pub width : List (Option ℕ)
  pub height : List (Option ℕ)
  pub groups : Groups

abbrev pub fields_of : Vp9Depacketizer → Fields
fields_of x = record {
  i = x.i;
  p = x.p;
  l = x.l;
  f = x.f;
  b = x.b;
  e = x.e;
  v = x.v;
  z = x.z;
  picture_id = x.picture_id;
  extended_pid = x.extended_pid;
  tid = x.tid;
  u = x.u;
  sid = x.sid;
  d = x.d;
  pdiff = x.pdiff;
  tl0picidx = x.tl0picidx;
  extended_tl0picidx = x.extended_tl0picidx;
  ns = x.ns;
  y = x.y;
  g = x.g;
  ng = x.ng;
  width = x.width;
  height = x.height;
  groups = record { tids = x.pgtid.items; us = x.pgu.items; differences = map (λ v. v.items) x.pgpdiff.items };
}

-- the fields of a depacketizer that has read nothing
abbrev pub unused : Fields
unused = record {
  i = false;
  p = false;
  l = false;
  f = false;
  b = false;
  e = false;
  v = false;
  z = false;
  picture_id = 0;
  extended_pid = None;
  tid = 0;
  u = false;
  sid = 0;
  d = false;
  pdiff = 0 ∷ 0 ∷ 0 ∷ [];
  tl0picidx = 0;
  extended_tl0picidx = None;
  ns = 0;
  y = false;
  g = false;
  ng = 0;
  width = None ∷ None ∷ None ∷ [];
  height = None ∷ None ∷ None ∷ [];
  groups = record { tids = []; us = []; differences = [] };
}
