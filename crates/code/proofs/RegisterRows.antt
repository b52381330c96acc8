-- All that is proved of the byte after a register form's register: what the source's groups of bytes say, the walk over its rows,
-- and that a change is what its bytes say.
use Prim.Native.Nat.{ℕ, ◌+◌, ◌/◌, ◌%◌, ◌≤◌, ◌<◌}
use mathlib.Core.Path.{◌≡◌, refl, ap, ap₂, subst, ◌∙◌}
use mathlib.Core.Bool.{Bool, true, false}
use mathlib.Core.List.{List, [], ◌∷◌, ◌++◌, append_assoc}
use native.Mathlib.Omega.{arith}
use native.Mathlib.Nat.{mod-lt}
use borrow.Author.Tests.{eqb-true}
use types.Run.{OneOf}
use Rattle.state.specs.Named.{is_named}
use Rattle.little.specs.Width.{bytes_of}
use Rattle.little.specs.declared.Size.{Size}
use Rattle.little.specs.declared.Size.TheVariants.{Byte, Word, Long}
use Rattle.alu.specs.declared.Shift.{Shift}
use Rattle.alu.specs.declared.change.Change.{Change}
use Rattle.alu.specs.declared.change.Change.TheVariants.{Inc, Dec, ShiftBy, Extz, Exts}
use Rattle.code.specs.declared.Op.TheVariants.{Puts}
use Rattle.code.specs.declared.Use.TheVariants.{From, Load, Compute, Changed}
use Rattle.code.specs.declared.Side.TheVariants.{First, With}
use Rattle.code.specs.declared.Operand.{Operand}
use Rattle.code.specs.declared.Operand.TheVariants.{Register, Named}
use Rattle.code.specs.Said.{Said, whole, unlisted, number}
use Rattle.code.specs.Rows.{Row, lookup, by_rows, only, no_byte}
use Rattle.code.specs.Registers.{register_rows, feed_rows, places_rows, arith_of, shift_kind}
use Rattle.code.specs.Listed.{code_byte_rows}
use Rattle.code.specs.Range.{Holds, that, register_range, place_range, change_range}
use Rattle.code.specs.Written.{code_of, place_code, load_code, from_code, change_code, size_step, shift_number}
use Rattle.code.proofs.Groups.{in_group, Missed}
use Rattle.code.proofs.Tables.{table, each_shift, in_arm, in_no_arm}
use Rattle.code.proofs.Judge.{bytes_bounds}
use Rattle.code.proofs.RowBytes.{run_in, columns_in, arith_back, shift_back, computes}
use Rattle.code.proofs.Says.{Says, Lists, byte, next}
use Rattle.code.proofs.Walk.{Can, Walk, Rows, by_rows_lem}
use Rattle.code.proofs.FeedRows.{feed_rows_lem}

-- ---- group by group, as the source asks
module _ (z : Size) (o : Operand) where
  pub inc : (b : ℕ) → b / 8 ≡ 12 → lookup (register_rows z o) b ≡ whole (Puts (Changed (Inc (b % 8)))) z o
  unfolding register_rows lookup
  inc = in_arm _ _ (12 ∷ []) refl

  pub dec : (b : ℕ) → b / 8 ≡ 13 → lookup (register_rows z o) b ≡ whole (Puts (Changed (Dec (b % 8)))) z o
  unfolding register_rows lookup
  dec = in_arm _ _ (13 ∷ []) refl

  pub load : (b : ℕ) → b / 8 ≡ 17 → lookup (register_rows z o) b ≡ whole (Puts (Load (b % 8))) z o
  unfolding register_rows lookup
  load = in_arm _ _ (17 ∷ []) refl

  pub into : (b : ℕ) → b / 8 ≡ 19 → lookup (register_rows z o) b ≡ whole (Puts (From (b % 8))) z o
  unfolding register_rows lookup
  into = in_arm _ _ (19 ∷ []) refl

  pub compute_constant : (b : ℕ) → b / 8 ≡ 25 → lookup (register_rows z o) b ≡ number (bytes_of z) (λ n. whole (Puts (Compute (arith_of (b % 8)) (With n))) z o)
  unfolding register_rows lookup
  compute_constant = in_arm _ _ (25 ∷ []) refl

  pub compute : (b : ℕ) → OneOf (16 ∷ 18 ∷ 20 ∷ 22 ∷ 24 ∷ 26 ∷ 28 ∷ 30 ∷ []) (b / 8) → lookup (register_rows z o) b ≡ whole (Puts (Compute (arith_of (b / 16 % 8)) (First (b % 8)))) z o
  unfolding register_rows lookup
  compute = in_arm _ _ (16 ∷ 18 ∷ 20 ∷ 22 ∷ 24 ∷ 26 ∷ 28 ∷ 30 ∷ []) refl

  pub no_load : (b : ℕ) → b / 8 ≡ 0 → (b ≡ 3 → ⊥) → lookup (register_rows z o) b ≡ unlisted
  unfolding register_rows feed_rows lookup
  no_load = in_group _ 0 (λ h. refl, λ h. refl, λ h. refl, λ h. absurd (h refl), λ h. refl, λ h. refl, λ h. refl, λ h. refl)

  pub no_extension : (b : ℕ) → b / 8 ≡ 2 → ((Unit {0} × (b ≡ 0x12 → ⊥)) × (b ≡ 0x13 → ⊥)) → lookup (register_rows z o) b ≡ unlisted
  unfolding register_rows feed_rows lookup
  no_extension = in_group _ 2 (λ h. refl, λ h. refl, λ h. absurd (h.0.1 refl), λ h. absurd (h.1 refl), λ h. refl, λ h. refl, λ h. refl, λ h. refl)

  pub shift : (b : ℕ) → b / 8 ≡ 29 → 0xEC ≤ b → lookup (register_rows z o) b ≡ by_rows (places_rows z o (shift_kind (b % 4)))
  unfolding register_rows lookup
  shift = in_group _ 29 (λ h. let x : ⊥ = omega arith in absurd x, λ h. let x : ⊥ = omega arith in absurd x, λ h. let x : ⊥ = omega arith in absurd x, λ h. let x : ⊥ = omega arith in absurd x, λ h. refl, λ h. refl, λ h. refl, λ h. refl)

  pub no_shift : (b : ℕ) → b / 8 ≡ 29 → b < 0xEC → lookup (register_rows z o) b ≡ unlisted
  unfolding register_rows feed_rows lookup
  no_shift = in_group _ 29 (λ h. refl, λ h. refl, λ h. refl, λ h. refl, λ h. let x : ⊥ = omega arith in absurd x, λ h. let x : ⊥ = omega arith in absurd x, λ h. let x : ⊥ = omega arith in absurd x, λ h. let x : ⊥ = omega arith in absurd x)

  -- the arms, last first
  abbrev pub register_arms : List (List ℕ)
  register_arms = (29 ∷ []) ∷ (25 ∷ []) ∷ (16 ∷ 18 ∷ 20 ∷ 22 ∷ 24 ∷ 26 ∷ 28 ∷ 30 ∷ []) ∷ (19 ∷ []) ∷ (17 ∷ []) ∷ (13 ∷ []) ∷ (12 ∷ []) ∷ (2 ∷ []) ∷ (0 ∷ []) ∷ []

  pub the_rest : (b : ℕ) → b < 256 → Missed register_arms (b / 8) → lookup (register_rows z o) b ≡ lookup (feed_rows z o) b
  unfolding register_rows lookup
  the_rest = in_no_arm _ (lookup (feed_rows z o)) register_arms 256 refl

-- ---- the walk over them, after the byte a of the register
can_place : (z : Size) (o : Operand) (kind : Shift) → Can (by_rows (places_rows z o kind))
unfolding places_rows lookup
can_place z o kind = (0, omega arith, tt)

can_register : (z : Size) (o : Operand) → Can (by_rows (register_rows z o))
unfolding register_rows lookup
can_register z o = (0x88, omega arith, tt)

-- the operand o stands in the bytes p, which with the next one are i
module _
    (Y : Type 0) (z : Size) (o : Operand) (i : ℕ) (p : List ℕ) (l : i ≤ 3) (e : p ≡ place_code (size_step z) o)
    (q : Y → Holds (register_range z o)) (w : Y → Holds (place_range z o))
    (d : load_code o ≡ 0x88) (f : (r : ℕ) → place_code (size_step z) o ++ ((0x98 + r) ∷ []) ≡ from_code r z o)
  where
    two : (x y : ℕ) → x ≡ y → p ++ (x ∷ []) ≡ place_code (size_step z) o ++ (y ∷ [])
    two x y g = ap₂ (λ (c : List ℕ) (b : ℕ). c ++ (b ∷ [])) e g

    more : (x y : ℕ) (t : List ℕ) → x ≡ y → (p ++ (x ∷ [])) ++ t ≡ place_code (size_step z) o ++ (y ∷ t)
    more x y t g = append_assoc p (x ∷ []) t ∙ ap₂ (λ (c : List ℕ) (b : ℕ). c ++ (b ∷ t)) e g

    places_rows_lem : (shift : Shift) (b : ℕ) → b ≡ 0xEC + shift_number shift → Rows Y (places_rows z o shift) (i + 1) (p ++ (b ∷ []))
    unfolding places_rows code_of
    places_rows_lem shift b g = (λ n h. let x = run_in _ _ n h in (omega arith, more b _ (n ∷ []) g, λ y. (omega arith, q y)), tt)

    extension : {c : List ℕ} (how : Change) (b : Bool) → c ≡ code_of (Puts (Changed how)) z o → (Holds (that b) → Holds (change_range how z)) → Walk Y (only b (whole (Puts (Changed how)) z o)) i c
    extension how true g k = (omega arith, g, λ y. (k tt, q y))
    extension how false g k = tt

    register_rows_lem : Rows Y (register_rows z o) i p
    unfolding register_rows code_of
    register_rows_lem =
        let n : bytes_of z ≤ 4 = bytes_bounds z (bytes_of z) refl in
        let m : i ≤ 7 = omega arith in (
          λ b h. (λ v. tt, λ v g. (omega arith, more b 0x03 _ (eqb-true b _ h), λ y. (g y, q y))),
          (
            λ b h. (m, two b _ (let x = run_in _ _ b h in rw d (omega arith)), λ y. (mod-lt b (omega arith), w y)),
            (
              λ b h. (m, two b _ (let x = run_in _ _ b h in omega arith) ∙ f (b % 8), λ y. (mod-lt b (omega arith), w y)),
              (
                λ b h. (m, two b _ (let x = columns_in _ b h in computes b x.0.0 x.0.1 x.1), λ y. (mod-lt b (omega arith), w y)),
                (
                  λ b h. (λ v. tt, λ v g. (omega arith, more b _ _ (let x = run_in _ _ b h in rw (arith_back (b % 8) (mod-lt b (omega arith))) (omega arith)), λ y. (g y, q y))),
                  (
                    λ b h. (m, two b _ (let x = run_in _ _ b h in omega arith), λ y. (mod-lt b (omega arith), q y)),
                    (
                      λ b h. (m, two b _ (let x = run_in _ _ b h in omega arith), λ y. (mod-lt b (omega arith), q y)),
                      (
                        λ b h. by_rows_lem Y (places_rows z o (shift_kind (b % 4))) i (p ++ (b ∷ [])) (can_place z o (shift_kind (b % 4))) (places_rows_lem (shift_kind (b % 4)) b (let x = run_in _ _ b h in rw (shift_back (b % 4) (mod-lt b (omega arith))) (omega arith))),
                        (
                          λ b h. extension Extz (no_byte z) (two b 0x12 (eqb-true b _ h)) (λ w. w),
                          (
                            λ b h. extension Exts (no_byte z) (two b 0x13 (eqb-true b _ h)) (λ w. w),
                            feed_rows_lem Y z o i p l e q,
                          ),
                        ),
                      ),
                    ),
                  ),
                ),
              ),
            ),
          ),
        )

-- after C8+r, and after C7 and a code byte
pub register_walk : (Y : Type 0) (z : Size) (r a : ℕ) → a ≡ 0xC8 + size_step z + r → r < 8 → Walk Y (by_rows (register_rows z (Register r))) 1 (a ∷ [])
register_walk Y z r a e q =
    by_rows_lem Y (register_rows z (Register r)) 1 (a ∷ []) (can_register z (Register r))
    (register_rows_lem Y z (Register r) 2 (a ∷ []) (omega arith) (ap (λ (x : ℕ). x ∷ []) e) (λ y. q) (λ y. q) refl (λ n. refl))

named_walk : (Y : Type 0) (z : Size) (c a : ℕ) → a ≡ 0xC7 + size_step z → c < 256 → (b : Bool) → b ≡ is_named (bytes_of z) c → Walk Y (only b (by_rows (register_rows z (Named c)))) 2 (a ∷ c ∷ [])
named_walk Y z c a e l true t =
    let q : Holds (that (is_named (bytes_of z) c)) = subst (λ (x : Bool). Holds (that x)) t tt in
    by_rows_lem Y (register_rows z (Named c)) 2 (a ∷ c ∷ []) (can_register z (Named c))
    (register_rows_lem Y z (Named c) 3 (a ∷ c ∷ []) (omega arith) (ap (λ (x : ℕ). x ∷ c ∷ []) e) (λ y. (l, q)) (λ y. (l, q)) refl (λ n. refl))
named_walk Y z c a e l false t = tt

-- E0 names a register of every size
can_code_byte : (z : Size) → Can (by_rows (code_byte_rows z))
unfolding code_byte_rows register_rows lookup
can_code_byte Byte = (0xE0, omega arith, can_register Byte (Named 0xE0))
can_code_byte Word = (0xE0, omega arith, can_register Word (Named 0xE0))
can_code_byte Long = (0xE0, omega arith, can_register Long (Named 0xE0))

pub code_byte_walk : (Y : Type 0) (z : Size) (a : ℕ) → a ≡ 0xC7 + size_step z → Walk Y (by_rows (code_byte_rows z)) 1 (a ∷ [])
unfolding code_byte_rows
code_byte_walk Y z a e =
    by_rows_lem Y (code_byte_rows z) 1 (a ∷ []) (can_code_byte z)
    (λ c h. let x = run_in _ _ c h in named_walk Y z c a e (omega arith) (is_named (bytes_of z) c) refl, tt)

-- ---- a change within its range is what its bytes say after the register's
-- what is listed only where a test is so is listed there
pub so_listed : (rows : List Row) (c : ℕ) (b : Bool) (d : Said) → Lists rows c (only b d) → Holds (that b) → Lists rows c d
so_listed rows c true d e h = e
so_listed rows c false d e h = absurd h

module _ (z : Size) (o : Operand) where
  inc_byte : (n : ℕ) → n < 8 → Lists (register_rows z o) (0x60 + n) (whole (Puts (Changed (Inc n))) z o)
  unfolding register_rows lookup
  inc_byte = table _ _ 8 refl

  dec_byte : (n : ℕ) → n < 8 → Lists (register_rows z o) (0x68 + n) (whole (Puts (Changed (Dec n))) z o)
  unfolding register_rows lookup
  dec_byte = table _ _ 8 refl

  shift_byte : (t : Shift) → Lists (register_rows z o) (0xEC + shift_number t) (by_rows (places_rows z o t))
  unfolding register_rows lookup
  shift_byte = each_shift _ _ refl

  places_byte : (t : Shift) (n : ℕ) → n < 16 → Lists (places_rows z o t) n (whole (Puts (Changed (ShiftBy t n))) z o)
  unfolding places_rows lookup
  places_byte t = table _ _ 16 refl

pub of_change : (how : Change) (z : Size) (o : Operand) → Holds (change_range how z) → Says (by_rows (register_rows z o)) (change_code how) (whole (Puts (Changed how)) z o)
unfolding register_rows lookup
of_change (Inc n) z o h = byte (register_rows z o) (0x60 + n) (inc_byte z o n h)
of_change (Dec n) z o h = byte (register_rows z o) (0x68 + n) (dec_byte z o n h)
of_change (ShiftBy t n) z o h = next (byte (register_rows z o) (0xEC + shift_number t) (shift_byte z o t)) (byte (places_rows z o t) n (places_byte z o t n h))
of_change Extz z o h = byte (register_rows z o) 0x12 (so_listed (register_rows z o) 0x12 (no_byte z) _ refl h)
of_change Exts z o h = byte (register_rows z o) 0x13 (so_listed (register_rows z o) 0x13 (no_byte z) _ refl h)
