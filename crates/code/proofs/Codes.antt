-- The walk over all codes, bullet by bullet.
use Prim.Native.Nat.{ℕ, ◌+◌, ◌%◌, ◌≤◌, ◌<◌, ◌^◌}
use mathlib.Core.Path.{◌≡◌, refl, ap, ap₂, ◌∙◌, sym, subst}
use mathlib.Core.Bool.{Bool, true, false, cond}
use mathlib.Core.List.{List, [], ◌∷◌, ◌++◌, append-nil}
use mathlib.Core.Logic.{inl, inr}
use native.Mathlib.Omega.{arith}
use native.Mathlib.Nat.{mod-lt}
use lib.Dec.{leb, eqb}
use borrow.Author.Tests.{leb-true, eqb-true}
use Rattle.little.specs.Bytes.{bytes_from}
use Rattle.little.specs.declared.Size.{Size}
use Rattle.little.specs.declared.Size.TheVariants.{Byte, Word, Long}
use Rattle.code.specs.declared.Op.{Op}
use Rattle.code.specs.declared.Op.TheVariants.{Controls, Stacks, Sets, Interrupts}
use Rattle.code.specs.declared.Control.TheVariants.{Nop, Incf, Decf, Ldf, Rcf, Scf, Ccf, Zcf, Exf, Jp16, Jp24, Jr, Jrl, Ei}
use Rattle.code.specs.declared.Stack.TheVariants.{PushF, PopF, Call16, Call24, Calr, Ret}
use Rattle.code.specs.declared.Interrupt.TheVariants.{PushSr, PopSr, Reti}
use Rattle.code.specs.declared.Base.{Base}
use Rattle.code.specs.declared.Base.TheVariants.{Indirect, Displaced, Absolute8, Absolute16, Absolute24}
use Rattle.code.specs.declared.Operand.{Operand}
use Rattle.code.specs.declared.Operand.TheVariants.{Constant}
use Rattle.code.specs.Rows.{Row, lookup, by_rows, no_long}
use Rattle.code.specs.Memory.{form, memory_rows, store_rows, copies, compares, blocks, block_rows, indirect_rows}
use Rattle.code.specs.Listed.{alone, with_constant, form_with, absolute_rows, up_to_seven_rows, bank_rows, flag_rows, constant_rows, stack_rows, jump_rows, relative_rows, interrupt_rows, register_form_rows, memory_form_rows, memory_at_rows, store_form_rows, alone_rows, memory_first_rows, code_byte_rows, named_form_rows, first_rows}
use Rattle.code.specs.Range.{Holds, that, InRange, base_range, pointer_range}
use Rattle.code.specs.Written.{code_of, place_code, size_step}
use Rattle.code.proofs.RowBytes.{run_in, columns_in, computes, computes_into}
use Rattle.code.proofs.Walk.{Can, Walk, Rows, by_rows_lem, both}
use Rattle.code.proofs.RegisterRows.{register_walk, code_byte_walk}

-- ---- a byte of each list that makes it whole
can_load : (z : Size) (o : Operand) (more : List Row) → Can (by_rows (memory_rows z o ++ more))
unfolding memory_rows lookup
can_load z o more = (0x20, omega arith, tt)

can_memory : (z : Size) (o : Operand) → Can (by_rows (memory_rows z o))
can_memory z o = rw append-nil at (can_load z o [])

can_indirect : (z : Size) (r : ℕ) → Can (by_rows (indirect_rows z r))
unfolding indirect_rows
can_indirect z r = can_load z (form (Indirect r) 0) (block_rows z r)

can_store : (o : Operand) → Can (by_rows (store_rows o))
unfolding store_rows lookup
can_store o = (0x40, omega arith, tt)

can_up_to_seven : (op : Op) → Can (by_rows (up_to_seven_rows op))
unfolding up_to_seven_rows lookup
can_up_to_seven op = (0, omega arith, tt)

can_first : Can (by_rows first_rows)
unfolding first_rows alone_rows bank_rows lookup
can_first = (0, omega arith, tt)

-- Y says that all are bytes
module _ (Y : Type 0) where
  -- ---- memory forms, after the bytes p of the form
  module _ (z : Size) (base : Base) (n i : ℕ) (p : List ℕ) (l : i ≤ 7) (q : Y → Holds (base_range base n)) where
    memory_rows_lem : p ≡ place_code (size_step z) (form base n) → Rows Y (memory_rows z (form base n)) i p
    unfolding memory_rows code_of
    memory_rows_lem e = (
      λ b h. (l, ap₂ (λ (c : List ℕ) (x : ℕ). c ++ (x ∷ [])) e (let x = run_in _ _ b h in omega arith), λ y. (mod-lt b (omega arith), q y)),
      (
        λ b h. (l, ap₂ (λ (c : List ℕ) (x : ℕ). c ++ (x ∷ [])) e (let x = columns_in _ b h in computes b x.0.0 x.0.1 x.1), λ y. (mod-lt b (omega arith), q y)),
        (
          λ b h. (l, ap₂ (λ (c : List ℕ) (x : ℕ). c ++ (x ∷ [])) e (let x = columns_in _ b h in computes_into b x.0.0 x.0.1 x.1), λ y. (mod-lt b (omega arith), q y)),
          tt,
        ),
      ),
    )

    store_rows_lem : p ≡ place_code 48 (form base n) → Rows Y (store_rows (form base n)) i p
    unfolding store_rows code_of
    store_rows_lem e = (
      λ b h. (l, ap₂ (λ (c : List ℕ) (x : ℕ). c ++ (x ∷ [])) e (let x = run_in _ _ b h in omega arith), λ y. (mod-lt b (omega arith), q y)),
      (
        λ b h. (l, ap₂ (λ (c : List ℕ) (x : ℕ). c ++ (x ∷ [])) e (let x = run_in _ _ b h in omega arith), λ y. (mod-lt b (omega arith), q y)),
        (
          λ b h. (l, ap₂ (λ (c : List ℕ) (x : ℕ). c ++ (x ∷ [])) e (let x = run_in _ _ b h in omega arith), λ y. (mod-lt b (omega arith), q y)),
          tt,
        ),
      ),
    )

  -- ---- copies and compares
  module _ (z : Size) (r a : ℕ) (e : a ≡ 0x80 + size_step z + r) (w : Holds (that (no_long z))) where
    both_bytes : (x y : ℕ) → x ≡ y → a ∷ x ∷ [] ≡ (0x80 + size_step z + r) ∷ y ∷ []
    both_bytes x y f = ap₂ (λ (c d : ℕ). c ∷ d ∷ []) e f

    copy_rows : (to : ℕ) → Holds (pointer_range true to r) → Rows Y (copies z to r) 2 (a ∷ [])
    unfolding copies code_of
    copy_rows to q =
        let l : 2 ≤ 7 = omega arith in (
          λ b h. (l, both_bytes b 0x10 (eqb-true b _ h), λ y. (q, (w, (refl, (refl, refl))))),
          (
            λ b h. (l, both_bytes b 0x11 (eqb-true b _ h), λ y. (q, (w, (refl, (refl, refl))))),
            (
              λ b h. (l, both_bytes b 0x12 (eqb-true b _ h), λ y. (q, (w, (refl, (refl, refl))))),
              (
                λ b h. (l, both_bytes b 0x13 (eqb-true b _ h), λ y. (q, (w, (refl, (refl, refl))))),
                tt,
              ),
            ),
          ),
        )

    compare_rows : Holds (pointer_range false r r) → Rows Y (compares z r) 2 (a ∷ [])
    unfolding compares code_of
    compare_rows q =
        let l : 2 ≤ 7 = omega arith in (
          λ b h. (l, both_bytes b 0x14 (eqb-true b _ h), λ y. (q, (w, (refl, (refl, refl))))),
          (
            λ b h. (l, both_bytes b 0x15 (eqb-true b _ h), λ y. (q, (w, (refl, (refl, refl))))),
            (
              λ b h. (l, both_bytes b 0x16 (eqb-true b _ h), λ y. (q, (w, (refl, (refl, refl))))),
              (
                λ b h. (l, both_bytes b 0x17 (eqb-true b _ h), λ y. (q, (w, (refl, (refl, refl))))),
                tt,
              ),
            ),
          ),
        )

    block_rows_lem : r < 8 → Rows Y (blocks z r) 2 (a ∷ [])
    unfolding blocks
    block_rows_lem q =
        both Y (cond (eqb r 3) (copies z 2 3) (cond (eqb r 5) (copies z 4 5) [])) (cond (leb 2 r) (compares z r) []) 2 (a ∷ [])
        (first (eqb r 3) (eqb r 5) refl refl) (second (leb 2 r) refl)
      where
        moved : (k to : ℕ) → r ≡ k → Rows Y (copies z to r) 2 (a ∷ []) → Rows Y (copies z to k) 2 (a ∷ [])
        moved k to f g = subst (λ (m : ℕ). Rows Y (copies z to m) 2 (a ∷ [])) f g

        first : (t u : Bool) → eqb r 3 ≡ t → eqb r 5 ≡ u → Rows Y (cond t (copies z 2 3) (cond u (copies z 4 5) [])) 2 (a ∷ [])
        first true u f g = moved 3 2 (eqb-true r 3 f) (copy_rows 2 (inl (refl, eqb-true r 3 f)))
        first false true f g = moved 5 4 (eqb-true r 5 g) (copy_rows 4 (inr (refl, eqb-true r 5 g)))
        first false false f g = tt

        second : (t : Bool) → leb 2 r ≡ t → Rows Y (cond t (compares z r) []) 2 (a ∷ [])
        second true f = compare_rows (refl, (leb-true 2 r f, q))
        second false f = tt

  blocks_of : (z : Size) (r a : ℕ) → a ≡ 0x80 + size_step z + r → r < 8 → Rows Y (block_rows z r) 2 (a ∷ [])
  blocks_of Byte r a e q = block_rows_lem Byte r a e tt q
  blocks_of Word r a e q = block_rows_lem Word r a e tt q
  blocks_of Long r a e q = tt

  indirect_rows_lem : (z : Size) (r a : ℕ) → a ≡ 0x80 + size_step z + r → r < 8 → Rows Y (indirect_rows z r) 2 (a ∷ [])
  unfolding indirect_rows
  indirect_rows_lem z r a e q =
      both Y (memory_rows z (form (Indirect r) 0)) (block_rows z r) 2 (a ∷ [])
      (memory_rows_lem z (Indirect r) 0 2 (a ∷ []) (omega arith) (λ y. (q, refl)) (ap (λ (x : ℕ). x ∷ []) e))
      (blocks_of z r a e q)

  -- the same with a number: in the row g, of memory and of stores
  module _
      (g : ℕ) (rows : Operand → List Row)
      (can : (o : Operand) → Can (by_rows (rows o)))
      (k : (base : Base) (n i : ℕ) (p : List ℕ) → i ≤ 7 → (Y → Holds (base_range base n)) → p ≡ place_code g (form base n) → Rows Y (rows (form base n)) i p)
    where
      form_with_lem :
          (base : Base) (n a c : ℕ) → n ≤ 3 → a ≡ c → ((v : ℕ) → v < 256 ^ n → Holds (base_range base v)) →
          ((v : ℕ) → place_code g (form base v) ≡ c ∷ bytes_from n v) → Walk Y (form_with base n rows) 1 (a ∷ [])
      form_with_lem base n a c l e q f = (
        λ v. can (form base v),
        λ v h. by_rows_lem Y (rows (form base v)) (1 + n) (a ∷ bytes_from n v) (can (form base v))
            (k base v (1 + n + 1) (a ∷ bytes_from n v) (omega arith) (λ y. q v (h y)) (ap (λ (x : ℕ). x ∷ bytes_from n v) e ∙ sym (f v))),
      )

      displaced : (r a : ℕ) → a ≡ 0x88 + g + r → r < 8 → Walk Y (form_with (Displaced r) 1 rows) 1 (a ∷ [])
      displaced r a e q = form_with_lem (Displaced r) 1 a (0x88 + g + r) (omega arith) e (λ v h. (q, h)) (λ v. refl)

      absolute : (a : ℕ) → a ≡ 0xC0 + g → Rows Y (absolute_rows a rows) 1 []
      unfolding absolute_rows
      absolute a e = (
        λ b h. let x : b ≡ a = eqb-true b a h in form_with_lem Absolute8 1 b (0xC0 + g) (omega arith) (omega arith) (λ v h. h) (λ v. refl),
        (
          λ b h. let x : b ≡ a + 1 = eqb-true b (a + 1) h in form_with_lem Absolute16 2 b (0xC1 + g) (omega arith) (omega arith) (λ v h. h) (λ v. refl),
          (
            λ b h. let x : b ≡ a + 2 = eqb-true b (a + 2) h in form_with_lem Absolute24 3 b (0xC2 + g) (omega arith) (omega arith) (λ v h. h) (λ v. refl),
            tt,
          ),
        ),
      )

  -- ---- the first byte: an operation alone, or with a constant of n bytes, at the byte c
  alone_row : (op : Op) (c : ℕ) → code_of op Byte (Constant 0) ≡ c ∷ [] → InRange op Byte (Constant 0) → (b : ℕ) → eqb b c ≡ true → Walk Y (alone op) 1 (b ∷ [])
  alone_row op c e q b h = (omega arith, ap (λ (x : ℕ). x ∷ []) (eqb-true b c h) ∙ sym e, λ y. q)

  constant_row :
      (op : Op) (z : Size) (n b c : ℕ) → n ≤ 4 → b ≡ c → ((v : ℕ) → code_of op z (Constant v) ≡ c ∷ bytes_from n v) →
      ((v : ℕ) → v < 256 ^ n → InRange op z (Constant v)) → Walk Y (with_constant op z n) 1 (b ∷ [])
  constant_row op z n b c l f e q = (λ v. tt, λ v g. (omega arith, ap (λ (x : ℕ). x ∷ bytes_from n v) f ∙ sym (e v), λ y. q v (g y)))

  up_to_seven_rows_lem :
      (op : Op) (b c : ℕ) → b ≡ c → ((n : ℕ) → code_of op Byte (Constant n) ≡ c ∷ n ∷ []) →
      ((n : ℕ) → n < 8 → InRange op Byte (Constant n)) → Rows Y (up_to_seven_rows op) 2 (b ∷ [])
  unfolding up_to_seven_rows
  up_to_seven_rows_lem op b c f e q = (λ n h. let x = run_in _ _ n h in (omega arith, ap (λ (x : ℕ). x ∷ n ∷ []) f ∙ sym (e n), λ y. q n (omega arith)), tt)

  up_to_seven_row :
      (op : Op) (c : ℕ) → ((n : ℕ) → code_of op Byte (Constant n) ≡ c ∷ n ∷ []) → ((n : ℕ) → n < 8 → InRange op Byte (Constant n)) →
      (b : ℕ) → eqb b c ≡ true → Walk Y (by_rows (up_to_seven_rows op)) 1 (b ∷ [])
  up_to_seven_row op c e q b h = by_rows_lem Y (up_to_seven_rows op) 1 (b ∷ []) (can_up_to_seven op) (up_to_seven_rows_lem op b c (eqb-true b c h) e q)

  bank_rows_lem : Rows Y bank_rows 1 []
  unfolding bank_rows code_of
  bank_rows_lem = (
    alone_row (Controls Nop) 0x00 refl (tt, omega arith),
    (
      alone_row (Controls Incf) 0x0C refl (tt, omega arith),
      (
        alone_row (Controls Decf) 0x0D refl (tt, omega arith),
        (
          up_to_seven_row (Controls Ldf) 0x17 (λ n. refl) (λ n h. (tt, h)),
          tt,
        ),
      ),
    ),
  )

  flag_rows_lem : Rows Y flag_rows 1 []
  unfolding flag_rows code_of
  flag_rows_lem = (
    alone_row (Controls Rcf) 0x10 refl (tt, omega arith),
    (
      alone_row (Controls Scf) 0x11 refl (tt, omega arith),
      (
        alone_row (Controls Ccf) 0x12 refl (tt, omega arith),
        (
          alone_row (Controls Zcf) 0x13 refl (tt, omega arith),
          (
            alone_row (Controls Exf) 0x16 refl (tt, omega arith),
            (
              alone_row (Stacks PushF) 0x18 refl (tt, omega arith),
              (
                alone_row (Stacks PopF) 0x19 refl (tt, omega arith),
                tt,
              ),
            ),
          ),
        ),
      ),
    ),
  )

  constant_rows_lem : Rows Y constant_rows 1 []
  unfolding constant_rows code_of
  constant_rows_lem = (
    λ b h. constant_row (Sets (b % 8)) Byte 1 b (0x20 + size_step Byte + b % 8) (omega arith) (let x = run_in _ _ b h in omega arith) (λ v. refl) (λ v g. (mod-lt b (omega arith), g)),
    (
      λ b h. constant_row (Sets (b % 8)) Word 2 b (0x20 + size_step Word + b % 8) (omega arith) (let x = run_in _ _ b h in omega arith) (λ v. refl) (λ v g. (mod-lt b (omega arith), g)),
      (
        λ b h. constant_row (Sets (b % 8)) Long 4 b (0x20 + size_step Long + b % 8) (omega arith) (let x = run_in _ _ b h in omega arith) (λ v. refl) (λ v g. (mod-lt b (omega arith), g)),
        tt,
      ),
    ),
  )

  stack_rows_lem : Rows Y stack_rows 1 []
  unfolding stack_rows code_of
  stack_rows_lem = (
    λ b h. let x = run_in _ _ b h in (omega arith, ap (λ (x : ℕ). x ∷ []) (omega arith), λ y. (tt, omega arith)),
    (
      λ b h. let x = run_in _ _ b h in (omega arith, ap (λ (x : ℕ). x ∷ []) (omega arith), λ y. (tt, omega arith)),
      (
        λ b h. let x = run_in _ _ b h in (omega arith, ap (λ (x : ℕ). x ∷ []) (omega arith), λ y. (tt, omega arith)),
        (
          λ b h. let x = run_in _ _ b h in (omega arith, ap (λ (x : ℕ). x ∷ []) (omega arith), λ y. (tt, omega arith)),
          tt,
        ),
      ),
    ),
  )

  jump_rows_lem : Rows Y jump_rows 1 []
  unfolding jump_rows code_of
  jump_rows_lem = (
    λ b h. constant_row (Controls Jp16) Byte 2 b 0x1A (omega arith) (eqb-true b _ h) (λ v. refl) (λ v g. (tt, g)),
    (
      λ b h. constant_row (Controls Jp24) Byte 3 b 0x1B (omega arith) (eqb-true b _ h) (λ v. refl) (λ v g. (tt, g)),
      (
        λ b h. constant_row (Stacks Call16) Byte 2 b 0x1C (omega arith) (eqb-true b _ h) (λ v. refl) (λ v g. (tt, g)),
        (
          λ b h. constant_row (Stacks Call24) Byte 3 b 0x1D (omega arith) (eqb-true b _ h) (λ v. refl) (λ v g. (tt, g)),
          (
            λ b h. constant_row (Stacks Calr) Byte 2 b 0x1E (omega arith) (eqb-true b _ h) (λ v. refl) (λ v g. (tt, g)),
            (
              alone_row (Stacks Ret) 0x0E refl (tt, omega arith),
              tt,
            ),
          ),
        ),
      ),
    ),
  )

  relative_rows_lem : Rows Y relative_rows 1 []
  unfolding relative_rows code_of
  relative_rows_lem = (
    λ b h. constant_row (Controls (Jr (b % 16))) Byte 1 b (0x60 + b % 16) (omega arith) (let x = run_in _ _ b h in omega arith) (λ v. refl) (λ v g. (mod-lt b (omega arith), (tt, g))),
    (
      λ b h. constant_row (Controls (Jrl (b % 16))) Byte 2 b (0x70 + b % 16) (omega arith) (let x = run_in _ _ b h in omega arith) (λ v. refl) (λ v g. (mod-lt b (omega arith), (tt, g))),
      tt,
    ),
  )

  interrupt_rows_lem : Rows Y interrupt_rows 1 []
  unfolding interrupt_rows code_of
  interrupt_rows_lem = (
    alone_row (Interrupts PushSr) 0x02 refl (tt, omega arith),
    (
      alone_row (Interrupts PopSr) 0x03 refl (tt, omega arith),
      (
        up_to_seven_row (Controls Ei) 0x06 (λ n. refl) (λ n h. (tt, h)),
        (
          alone_row (Interrupts Reti) 0x07 refl (tt, omega arith),
          tt,
        ),
      ),
    ),
  )

  register_form_rows_lem : Rows Y register_form_rows 1 []
  unfolding register_form_rows
  register_form_rows_lem = (
    λ b h. register_walk Y Byte (b % 8) b (let x = run_in _ _ b h in omega arith) (mod-lt b (omega arith)),
    (
      λ b h. register_walk Y Word (b % 8) b (let x = run_in _ _ b h in omega arith) (mod-lt b (omega arith)),
      (
        λ b h. register_walk Y Long (b % 8) b (let x = run_in _ _ b h in omega arith) (mod-lt b (omega arith)),
        tt,
      ),
    ),
  )

  code_byte_row : (z : Size) (a : ℕ) → a ≡ 0xC7 + size_step z → (b : ℕ) → eqb b a ≡ true → Walk Y (by_rows (code_byte_rows z)) 1 (b ∷ [])
  code_byte_row z a e b h = code_byte_walk Y z b (eqb-true b a h ∙ e)

  named_form_rows_lem : Rows Y named_form_rows 1 []
  unfolding named_form_rows
  named_form_rows_lem = (code_byte_row Byte 0xC7 refl, (code_byte_row Word 0xD7 refl, (code_byte_row Long 0xE7 refl, tt)))

  memory_form_rows_lem : Rows Y memory_form_rows 1 []
  unfolding memory_form_rows
  memory_form_rows_lem = (
    λ b h. by_rows_lem Y (indirect_rows Byte (b % 8)) 1 (b ∷ []) (can_indirect Byte (b % 8)) (indirect_rows_lem Byte (b % 8) b (let x = run_in _ _ b h in omega arith) (mod-lt b (omega arith))),
    (
      λ b h. displaced 0 (memory_rows Byte) (can_memory Byte) (memory_rows_lem Byte) (b % 8) b (let x = run_in _ _ b h in omega arith) (mod-lt b (omega arith)),
      (
        λ b h. by_rows_lem Y (indirect_rows Word (b % 8)) 1 (b ∷ []) (can_indirect Word (b % 8)) (indirect_rows_lem Word (b % 8) b (let x = run_in _ _ b h in omega arith) (mod-lt b (omega arith))),
        (
          λ b h. displaced 16 (memory_rows Word) (can_memory Word) (memory_rows_lem Word) (b % 8) b (let x = run_in _ _ b h in omega arith) (mod-lt b (omega arith)),
          (
            λ b h. by_rows_lem Y (indirect_rows Long (b % 8)) 1 (b ∷ []) (can_indirect Long (b % 8)) (indirect_rows_lem Long (b % 8) b (let x = run_in _ _ b h in omega arith) (mod-lt b (omega arith))),
            (
              λ b h. displaced 32 (memory_rows Long) (can_memory Long) (memory_rows_lem Long) (b % 8) b (let x = run_in _ _ b h in omega arith) (mod-lt b (omega arith)),
              tt,
            ),
          ),
        ),
      ),
    ),
  )

  memory_at_rows_lem : Rows Y memory_at_rows 1 []
  unfolding memory_at_rows
  memory_at_rows_lem =
      both Y (absolute_rows 0xC0 (memory_rows Byte)) _ 1 [] (absolute 0 (memory_rows Byte) (can_memory Byte) (memory_rows_lem Byte) 0xC0 refl)
      (both Y (absolute_rows 0xD0 (memory_rows Word)) _ 1 [] (absolute 16 (memory_rows Word) (can_memory Word) (memory_rows_lem Word) 0xD0 refl)
      (absolute 32 (memory_rows Long) (can_memory Long) (memory_rows_lem Long) 0xE0 refl))

  store_form_rows_lem : Rows Y store_form_rows 1 []
  unfolding store_form_rows
  store_form_rows_lem = (
    λ b h. by_rows_lem Y (store_rows (form (Indirect (b % 8)) 0)) 1 (b ∷ []) (can_store (form (Indirect (b % 8)) 0)) (store_rows_lem Byte (Indirect (b % 8)) 0 2 (b ∷ []) (omega arith) (λ y. (mod-lt b (omega arith), refl)) (ap (λ (x : ℕ). x ∷ []) (let x = run_in _ _ b h in omega arith))),
    (
      λ b h. displaced 48 store_rows can_store (store_rows_lem Byte) (b % 8) b (let x = run_in _ _ b h in omega arith) (mod-lt b (omega arith)),
      absolute 48 store_rows can_store (store_rows_lem Byte) 0xF0 refl,
    ),
  )

  pub first_rows_lem : Walk Y (by_rows first_rows) 0 []
  unfolding first_rows alone_rows memory_first_rows
  first_rows_lem =
      by_rows_lem Y first_rows 0 [] can_first
      (both Y alone_rows _ 1 []
      (both Y bank_rows _ 1 [] bank_rows_lem
      (both Y flag_rows _ 1 [] flag_rows_lem
      (both Y constant_rows _ 1 [] constant_rows_lem
      (both Y stack_rows _ 1 [] stack_rows_lem
      (both Y jump_rows _ 1 [] jump_rows_lem
      (both Y relative_rows _ 1 [] relative_rows_lem interrupt_rows_lem))))))
      (both Y register_form_rows _ 1 [] register_form_rows_lem
      (both Y memory_first_rows _ 1 []
      (both Y memory_form_rows _ 1 [] memory_form_rows_lem
      (both Y memory_at_rows _ 1 [] memory_at_rows_lem store_form_rows_lem))
      named_form_rows_lem)))
