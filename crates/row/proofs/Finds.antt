-- The reading finds the one list that the code is, or the one place where it cannot go on.
use Prim.Native.Nat.{ℕ, zero, suc, ◌<◌, ◌≤◌}
use mathlib.Core.Path.{◌≡◌, refl, ap, sym, ◌∙◌}
use mathlib.Core.List.{List, [], ◌∷◌, ◌++◌, append_assoc}
use mathlib.Core.Logic.{inl, inr, ◌⊎◌}
use native.Mathlib.Omega.{arith}
use lib.ListN.{length, drop}
use lib.Seq.{drop-append_seam}
use borrow.Author.Tests.{leb-true}
use lib.Dec.{leb}
use Rattle.little.specs.Bytes.{Bytes}
use Rattle.code.specs.declared.Instruction.{Instruction}
use Rattle.code.specs.Listed.{decode_of}
use Rattle.code.proofs.Holds.{both_true}
use Rattle.code.proofs.Walked.{length_fits, bytes_drop}
use Rattle.std.specs.Prelude.{Ok, Err}
use Rattle.encode.specs.declared.Refusal.{Refusal}
use Rattle.encode.specs.declared.Refusal.TheVariants.{Short, Unlisted, NoList, NoRoom}
use Rattle.encode.specs.One.{bytes_in}
use Rattle.row.specs.Row.{most, row_of, all_listed, can_write, Reading, before, row_read}
use Rattle.row.specs.Statements.{ReadsAs, ReadFinds, ReadsAgain, Begins, ReadRefused}
use Rattle.row.proofs.Through.{before_refused, read_none, read_full, read_whole, read_short, read_unlisted}
use Rattle.row.proofs.Laws.{reads_back, read_is_listed, written_reads, as_long, all_so, all_of}
use Rattle.code.specs.Unread.{Decoded}
use Rattle.code.specs.declared.Unread.TheVariants as unread

no_byte_lem : (s : List ℕ) → length s ≡ 0 → s ≡ []
no_byte_lem [] z = refl
no_byte_lem (b ∷ s) z = let y : ⊥ = omega arith in absurd y

none_or_some : (s : List ℕ) → (length s ≡ 0) ⊎ (0 < length s)
none_or_some [] = inl refl
none_or_some (b ∷ s) = inr (omega arith)

-- ---- what is told of a row tells of the rest of it
rest_done : (i : Instruction) (r : Reading) (l : List Instruction) → before (i ∷ []) r ≡ Ok l → (m : List Instruction) × (r ≡ Ok m) × (l ≡ i ∷ m)
unfolding before
rest_done i (Ok m) l e = (m, refl, cc)
rest_done i (Err why) l e = absurd (cc)

rest_refused : (i : Instruction) (r : Reading) (x : Refusal) → before (i ∷ []) r ≡ Err x → r ≡ Err x
unfolding before
rest_refused i (Ok m) x e = absurd (cc)
rest_refused i (Err why) x e = e

not_done : (l : List Instruction) (x : Refusal) → ◌≡◌ {A = Reading} (Ok l) (Err x) → ⊥
not_done l x e = cc

-- ---- the list that is found
finds : (n : ℕ) (s : List ℕ) (l : List Instruction) → ReadsAs s l → length l ≤ n → row_read n s ≡ Ok l
unfolding before
finds n s [] r h = read_none n s (ap length r)
finds zero s (i ∷ l) r h = let y : ⊥ = omega arith in absurd y
finds (suc n) s (i ∷ l) r h =
    let f = length_fits s i r.0 in
    read_whole n s i (omega arith) r.0 ∙ ap (before (i ∷ [])) (finds n (drop i.length s) l r.1 (omega arith))

-- with what is known of the rest of the code, in which one fewer can be held
found_with :
    (n : ℕ) (s : List ℕ) (l : List Instruction) → ((t : List ℕ) (m : List Instruction) → row_read n t ≡ Ok m → ReadsAs t m × (length m ≤ n)) →
    0 < length s → (d : Decoded) → decode_of s ≡ d → row_read (suc n) s ≡ Ok l → ReadsAs s l × (length l ≤ suc n)
found_with n s l rest h (Ok i) f e =
    let x = rest_done i (row_read n (drop i.length s)) l (sym (read_whole n s i h f) ∙ e) in
    let y = rest (drop i.length s) x.0 x.1 in
    rw x.2 ((f, y.0), omega arith)
found_with n s l rest h (Err unread.Short) f e = absurd (not_done l Short (sym e ∙ read_short n s h f))
found_with n s l rest h (Err unread.Unlisted) f e = absurd (not_done l Unlisted (sym e ∙ read_unlisted n s h f))

none_there : {l : List Instruction} → ◌≡◌ {A = Reading} (Ok l) (Ok []) → l ≡ []
none_there e = cc

found_none : (n : ℕ) (s : List ℕ) (l : List Instruction) → length s ≡ 0 → row_read n s ≡ Ok l → ReadsAs s l × (length l ≤ n)
found_none n s l z e =
    let k : l ≡ [] = none_there (sym e ∙ read_none n s z) in
    rw k (no_byte_lem s z, omega arith)

found : (n : ℕ) (s : List ℕ) (l : List Instruction) → row_read n s ≡ Ok l → ReadsAs s l × (length l ≤ n)
found zero s l e = elim (none_or_some s) [ inl z ↦ found_none 0 s l z e | inr h ↦ absurd (not_done l NoList (sym e ∙ read_full s h)) ]
found (suc n) s l e = elim (none_or_some s) [ inl z ↦ found_none (suc n) s l z e | inr h ↦ found_with n s l (found n) h (decode_of s) refl e ]

pub read_finds : ReadFinds
read_finds s l = (found most s l, λ r. finds most s l r.0 r.1)

pub reads_again : ReadsAgain
unfolding can_write
reads_again l h =
    let b = both_true (leb (length l) most) (all_listed l) h in
    finds most (row_of l) l (written_reads l b.1) (leb-true (length l) most b.0)

same_refusal : {x y : Refusal} → ◌≡◌ {A = Reading} (Err x) (Err y) → x ≡ y
same_refusal e = cc

-- ---- where it cannot go on: what forces the end x behind k instructions, where n can be held
abbrev Forces : ℕ → ℕ → List ℕ → Refusal → Type 0
Forces n k t Short = (k < n) × (decode_of t ≡ Err unread.Short)
Forces n k t Unlisted = (k < n) × (decode_of t ≡ Err unread.Unlisted)
Forces n k t NoList = k ≡ n
Forces n k t NoRoom = ⊥

abbrev Stops : ℕ → List ℕ → Refusal → Type 0
Stops n s x = (l : List Instruction) × (t : List ℕ) × Begins s l t × Forces n (length l) t x

one_more : (n k : ℕ) (t : List ℕ) (x : Refusal) → Forces n k t x → Forces (suc n) (suc k) t x
one_more n k t Short f = (omega arith, f.1)
one_more n k t Unlisted f = (omega arith, f.1)
one_more n k t NoList f = omega arith
one_more n k t NoRoom f = f

begins_none : (s : List ℕ) → 0 < length s → Begins s [] s
unfolding row_of all_listed
begins_none s h = (refl, refl, h)

begins_more : (s : List ℕ) (i : Instruction) (l : List Instruction) (t : List ℕ) → Bytes s → decode_of s ≡ Ok i → Begins (drop i.length s) l t → Begins s (i ∷ l) t
unfolding row_of
begins_more s i l t b e g =
    let one = read_is_listed s i b e in
    (all_of i l one.0 g.0, one.1 ∙ ap (λ (r : List ℕ). bytes_in i ++ r) g.1 ∙ sym (append_assoc (bytes_in i) (row_of l) t), g.2)

stops_with :
    (n : ℕ) (s : List ℕ) (x : Refusal) → ((t : List ℕ) → Bytes t → row_read n t ≡ Err x → Stops n t x) →
    Bytes s → 0 < length s → (d : Decoded) → decode_of s ≡ d → row_read (suc n) s ≡ Err x → Stops (suc n) s x
stops_with n s x rest b h (Ok i) f e =
    let r = rest (drop i.length s) (bytes_drop i.length s b) (rest_refused i (row_read n (drop i.length s)) x (sym (read_whole n s i h f) ∙ e)) in
    (i ∷ r.0, r.1, begins_more s i r.0 r.1 b f r.2, one_more n (length r.0) r.1 x r.3)
stops_with n s x rest b h (Err unread.Short) f e =
    let k : Short ≡ x = same_refusal (sym (read_short n s h f) ∙ e) in
    ([], s, begins_none s h, rw (sym k) (omega arith, f))
stops_with n s x rest b h (Err unread.Unlisted) f e =
    let k : Unlisted ≡ x = same_refusal (sym (read_unlisted n s h f) ∙ e) in
    ([], s, begins_none s h, rw (sym k) (omega arith, f))

stops_none : (n : ℕ) (s : List ℕ) (x : Refusal) → length s ≡ 0 → row_read n s ≡ Err x → Stops n s x
stops_none n s x z e = absurd (not_done [] x (sym (read_none n s z) ∙ e))

stops : (n : ℕ) (s : List ℕ) (x : Refusal) → Bytes s → row_read n s ≡ Err x → Stops n s x
stops zero s x b e =
    elim (none_or_some s) [
      | inl z ↦ stops_none 0 s x z e
      | inr h ↦ (let k : NoList ≡ x = same_refusal (sym (read_full s h) ∙ e) in ([], s, begins_none s h, rw (sym k) refl))
    ]
stops (suc n) s x b e =
    elim (none_or_some s) [ inl z ↦ stops_none (suc n) s x z e | inr h ↦ stops_with n s x (λ t b. stops n t x b) b h (decode_of s) refl e ]

-- and where it is forced, it stops
begun : (s : List ℕ) (i : Instruction) (l : List Instruction) (t : List ℕ) → Begins s (i ∷ l) t → (decode_of s ≡ Ok i) × Begins (drop i.length s) l t
unfolding row_of
begun s i l t g =
    let b = all_so i l g.0 in
    let e : s ≡ bytes_in i ++ (row_of l ++ t) = g.1 ∙ append_assoc (bytes_in i) (row_of l) t in
    let rest : drop i.length s ≡ row_of l ++ t = rw (as_long i b.0, e) (drop-append_seam (bytes_in i) (row_of l ++ t)) in
    (ap decode_of e ∙ reads_back i (row_of l ++ t) b.0, (b.1, rest, g.2))

forced_first : (n : ℕ) (s : List ℕ) (x : Refusal) → 0 < length s → Forces n 0 s x → row_read n s ≡ Err x
forced_first zero s Short h f = let y : ⊥ = omega arith in absurd y
forced_first (suc n) s Short h f = read_short n s h f.1
forced_first zero s Unlisted h f = let y : ⊥ = omega arith in absurd y
forced_first (suc n) s Unlisted h f = read_unlisted n s h f.1
forced_first zero s NoList h f = read_full s h
forced_first (suc n) s NoList h f = let y : ⊥ = omega arith in absurd y
forced_first n s NoRoom h f = absurd f

one_less : (n k : ℕ) (t : List ℕ) (x : Refusal) → Forces (suc n) (suc k) t x → Forces n k t x
one_less n k t Short f = (omega arith, f.1)
one_less n k t Unlisted f = (omega arith, f.1)
one_less n k t NoList f = omega arith
one_less n k t NoRoom f = f

nothing_held : (k : ℕ) (t : List ℕ) (x : Refusal) → Forces 0 (suc k) t x → ⊥
nothing_held k t Short f = omega arith
nothing_held k t Unlisted f = omega arith
nothing_held k t NoList f = omega arith
nothing_held k t NoRoom f = f

forced : (n : ℕ) (s : List ℕ) (x : Refusal) (l : List Instruction) (t : List ℕ) → Begins s l t → Forces n (length l) t x → row_read n s ≡ Err x
unfolding row_of
forced n s x [] t g f = rw g.1 (forced_first n t x g.2 f)
forced zero s x (i ∷ l) t g f = absurd (nothing_held (length l) t x f)
forced (suc n) s x (i ∷ l) t g f =
    let b = begun s i l t g in
    let h = length_fits s i b.0 in
    read_whole n s i (omega arith) b.0 ∙ ap (before (i ∷ [])) (forced n (drop i.length s) x l t b.1 (one_less n (length l) t x f)) ∙ before_refused (i ∷ []) x

pub read_refused : ReadRefused
read_refused s b = (
  (λ e. let w = stops most s Short b e in (w.0, w.1, w.2, w.3.0, w.3.1), λ w. forced most s Short w.0 w.1 w.2 (w.3, w.4)),
  (λ e. let w = stops most s Unlisted b e in (w.0, w.1, w.2, w.3.0, w.3.1), λ w. forced most s Unlisted w.0 w.1 w.2 (w.3, w.4)),
  (stops most s NoList b, λ w. forced most s NoList w.0 w.1 w.2 w.3),
)
