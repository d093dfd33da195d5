-- Where the bytes of a table lie, and a record with some of its fields changed. No rule of 01 but the sizes and the order of the
-- bytes stands here: 256 records "in order A1..P16, then one "command heard" byte per house"; 02, A3: "one byte per house at the table's
-- end"; and 02, A5: "the record has 12 bytes and the table 3,104".
use Rattle.std.specs.Prelude.{ℕ, ◌+◌, ◌*◌, ◌^◌, Bool, not, List, [], ◌∷◌, ◌++◌, eqb, leb, get_or, set}
use Rattle.ground.specs.Choice.{pick}
use Rattle.ground.specs.Records.{bytes_at, Layout, put_at, sum_below}
use Rattle.plan.specs.Plans.{bit}
use Rattle.record.specs.declared.Record.{Record}
use Rattle.record.specs.declared.Groups.{Groups}
use Rattle.record.specs.declared.Membership.{Membership}
use Rattle.record.specs.declared.House.{House}

abbrev pub GROUPS : ℕ
GROUPS = 4

abbrev pub RECORD_BYTES : ℕ
RECORD_BYTES = 12

abbrev pub UNITS : ℕ
UNITS = 16

abbrev pub HOUSES : ℕ
HOUSES = 16

abbrev pub RECORDS : ℕ
RECORDS = HOUSES * UNITS

abbrev pub HEARD_AT : ℕ
HEARD_AT = RECORDS * RECORD_BYTES

abbrev pub LIT_AT : ℕ
LIT_AT = HEARD_AT + HOUSES

abbrev pub HOUSE_BYTES : ℕ
HOUSE_BYTES = 2

abbrev pub TABLE_BYTES : ℕ
TABLE_BYTES = HEARD_AT + HOUSES * HOUSE_BYTES

-- "Record: kind .., level .., addressed .., group mask .., four presets", and the references "in four more bytes at the record's end, group 0
-- first": record i of a table, and a record put there
unfoldable pub record_at : List ℕ → ℕ → Record
record_at t i =
    let at = i * RECORD_BYTES in
    record {
      kind = get_or t at 0;
      level = get_or t (at + 1) 0;
      addressed = get_or t (at + 2) 0;
      groups = record { mask = get_or t (at + 3) 0; presets = bytes_at t at 4 GROUPS; references = bytes_at t at 8 GROUPS };
    }

abbrev pub record_bytes : Record → List ℕ
record_bytes r = r.kind ∷ r.level ∷ r.addressed ∷ r.groups.mask ∷ (r.groups.presets ++ r.groups.references)

abbrev pub modules : Layout Record
modules = record { size = RECORD_BYTES; at = record_at; bytes = record_bytes }

abbrev pub put : List ℕ → ℕ → Record → List ℕ
put t i r = put_at modules t i r

-- the byte of house h that says how many of its modules are lit
abbrev pub lit_byte : List ℕ → ℕ → ℕ
lit_byte t h = get_or t (LIT_AT + h) 0

-- the bytes of house h beside its records', and such bytes put there: the "command heard" bytes of all houses come before the lit bytes
unfoldable pub house_at : List ℕ → ℕ → House
house_at t h = record { heard = get_or t (HEARD_AT + h) 0; lit = lit_byte t h }

unfoldable pub put_house : List ℕ → ℕ → House → List ℕ
put_house t h own = set (set t (HEARD_AT + h) own.heard) (LIT_AT + h) own.lit

-- "kind (0 none, 1 lamp, 2 appliance)"
abbrev pub present : Record → Bool
present r = not (eqb r.kind 0)

abbrev pub lamp : Record → Bool
lamp r = eqb r.kind 1

abbrev pub appliance : Record → Bool
appliance r = eqb r.kind 2

-- "group mask 0..15 (bit g for group g)", and the group's preset and reference: what a record is in group g
abbrev pub membership : ℕ → Groups → Membership
membership g of = record { member = bit g of.mask; preset = get_or of.presets g 0; reference = get_or of.references g 0 }

abbrev pub member : ℕ → Record → Bool
member g r = (membership g r.groups).member

abbrev pub preset : ℕ → Record → ℕ
preset g r = (membership g r.groups).preset

abbrev pub reference : ℕ → Record → ℕ
reference g r = (membership g r.groups).reference

-- group g as a bit of the mask; there is none beyond the four groups
abbrev pub bit_of : ℕ → ℕ
bit_of g = pick (leb g 3) (2 ^ g) 0

-- the groups of a record that is in group g what is told of g
abbrev pub mask_of : (ℕ → Bool) → ℕ
mask_of told = sum_below GROUPS (λ g. pick (told g) (2 ^ g) 0)

abbrev pub four_of : (ℕ → ℕ) → List ℕ
four_of told = told 0 ∷ told 1 ∷ told 2 ∷ told 3 ∷ []

unfoldable pub regroup : (ℕ → Membership) → Groups
regroup told =
    record { mask = mask_of (λ g. (told g).member); presets = four_of (λ g. (told g).preset); references = four_of (λ g. (told g).reference) }

-- the record with its level, its mark of being addressed, or its groups changed
abbrev pub with_level : ℕ → Record → Record
with_level x r = record { kind = r.kind; level = x; addressed = r.addressed; groups = r.groups }

abbrev pub with_addressed : ℕ → Record → Record
with_addressed x r = record { kind = r.kind; level = r.level; addressed = x; groups = r.groups }

abbrev pub with_groups : Groups → Record → Record
with_groups of r = record { kind = r.kind; level = r.level; addressed = r.addressed; groups = of }
