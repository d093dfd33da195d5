-- Laws of the list of commands, and of the command that has a code.
--
--     get_d_mem, every_mem                      an entry is a member; what a test over a list says of a member
--     in_commands, commands_ok                 the list has the valid commands and no others
--     commands_count, commands_one_to_one      it has 544, and none twice
--     code_of-named, named_of_code             a code that stands among the 544 is its command's, and a valid command's code stands there
use mathlib.Core.Path.{◌≡◌, refl, sym, ap, ap₂, subst, ◌∙◌}
use mathlib.Core.Bool.{Bool, true, false, and-eq-true_iff, true≢false}
use mathlib.Core.List.Memᴰ
use mathlib.Core.List.{List, [], ◌∷◌, flat_map, Memᴰ}
use Prim.Native.Nat.{ℕ, zero, suc, ◌+◌, ◌*◌, ◌<◌}
use native.Mathlib.Nat.{le_of_suc-le-suc, not-suc-le-zero}
use native.Mathlib.Omega.{arith}
use borrow.Author.Tests.{eqb-true, eq-eqb, ltb-true, lt-ltb}
use lib.Dec.{eqb}
use lib.ListN.{length, get_or, length-map, get_or-map}
use Rattle.ground.specs.Choice.{pick}
use Rattle.ground.proofs.Choices.{pick_both, both, below_sixteen, both_below}
use Rattle.message.specs.Codes.{place_in}
use Rattle.message.proofs.Tables.{every_from, every_at}
use Rattle.radio.specs.Codes.{four_bytes, command_ok, sixteen, switches_of, commands_of, commands, codes, same_code, code_place, among, command_of}
use Rattle.radio.specs.declared.RadioCommand.{RadioCommand}
use Rattle.radio.specs.declared.RadioCommand.TheVariants.{On, Off, Bright, Dim}
use Rattle.radio.proofs.CodeLaws.{no_shared_code}

-- ---- membership

module _ {A : Type 0} where
  pub get_d_mem : (xs : List A) (i : ℕ) (d : A) → i < length xs → Memᴰ (get_or xs i d) xs
  get_d_mem [] i d h = absurd (not-suc-le-zero h)
  get_d_mem (x ∷ xs) zero d h = Memᴰ.head refl
  get_d_mem (x ∷ xs) (suc i) d h = Memᴰ.tail (get_d_mem xs i d (le_of_suc-le-suc h))

  pub every_mem : (f : A → Bool) (xs : List A) (i : ℕ) {x : A} → every_from (λ k y. f y) i xs ≡ true → Memᴰ x xs → f x ≡ true
  every_mem f [] i t m = elim m [ ]
  every_mem f (y ∷ ys) i t (Memᴰ.head e) = ap f e ∙ ((and-eq-true_iff (f y) (every_from (λ k y. f y) (suc i) ys)).0 t).0
  every_mem f (y ∷ ys) i t (Memᴰ.tail m) = every_mem f ys (suc i) ((and-eq-true_iff (f y) (every_from (λ k y. f y) (suc i) ys)).0 t).1 m

module _ {A B : Type 0} (f : A → List B) where
  flat_map-mem : {x : A} {y : B} {xs : List A} → Memᴰ x xs → Memᴰ y (f x) → Memᴰ y (flat_map f xs)
  unfolding flat_map
  flat_map-mem {x} {y} (Memᴰ.head {x = a} {xs = rest} e) m = Memᴰ.append_left (flat_map f rest) (subst (λ (z : A). Memᴰ y (f z)) e m)
  flat_map-mem (Memᴰ.tail {x = a} i) m = Memᴰ.append_right (f a) (flat_map-mem i m)

-- ---- the list of commands

in_sixteen : (n : ℕ) → n < 16 → Memᴰ n sixteen
unfolding sixteen
in_sixteen n l =
    Memᴰ.cast (sym (eqb-true (get_or sixteen n 0) n (every_at (λ k x. eqb x k) sixteen 0 n refl l))) (get_d_mem sixteen n 0 l)

module _ (h : ℕ) (k : RadioCommand) (lh : h < 16) where
  in_switches : (u : ℕ) → u < 16 → Memᴰ k (switches_of h u) → Memᴰ k commands
  unfolding commands commands_of
  in_switches u lu m =
      flat_map-mem commands_of (in_sixteen h lh)
      (Memᴰ.append_left (Bright h ∷ Dim h ∷ []) (flat_map-mem (switches_of h) (in_sixteen u lu) m))

  in_steps : Memᴰ k (Bright h ∷ Dim h ∷ []) → Memᴰ k commands
  unfolding commands commands_of
  in_steps m = flat_map-mem commands_of (in_sixteen h lh) (Memᴰ.append_right (flat_map (switches_of h) sixteen) m)

pub in_commands : (k : RadioCommand) → command_ok k ≡ true → Memᴰ k commands
in_commands (On h u) t = let p = both_below h u t in in_switches h (On h u) p.0 u p.1 (Memᴰ.head refl)
in_commands (Off h u) t = let p = both_below h u t in in_switches h (Off h u) p.0 u p.1 (Memᴰ.tail (Memᴰ.head refl))
in_commands (Bright h) t = in_steps h (Bright h) (below_sixteen h t) (Memᴰ.head refl)
in_commands (Dim h) t = in_steps h (Dim h) (below_sixteen h t) (Memᴰ.tail (Memᴰ.head refl))

all_ok : every_from (λ i k. command_ok k) 0 commands ≡ true
unfolding commands commands_of flat_map sixteen
all_ok = refl

pub commands_ok : (k : RadioCommand) → Memᴰ k commands → command_ok k ≡ true
commands_ok k m = every_mem command_ok commands 0 all_ok m

pub commands_count : length commands ≡ 544
unfolding commands commands_of flat_map sixteen
commands_count = refl

-- a command's place in the list, by its house and unit
abbrev place_of : RadioCommand → ℕ
place_of (On h u) = h * 34 + u * 2
place_of (Off h u) = h * 34 + u * 2 + 1
place_of (Bright h) = h * 34 + 32
place_of (Dim h) = h * 34 + 33

in_place : every_from (λ i k. eqb (place_of k) i) 0 commands ≡ true
unfolding commands commands_of flat_map sixteen
in_place = refl

pub commands_one_to_one : (d : RadioCommand) (i j : ℕ) → i < length commands → j < length commands → get_or commands i d ≡ get_or commands j d → i ≡ j
commands_one_to_one d i j hi hj e = sym (place i hi) ∙ ap place_of e ∙ place j hj
  where
    place : (n : ℕ) → n < length commands → place_of (get_or commands n d) ≡ n
    place n l = eqb-true (place_of (get_or commands n d)) n (every_at (λ i k. eqb (place_of k) i) commands d n in_place l)

-- ---- the place of an entry

module _ {A : Type 0} (same : A → A → Bool) (a : A) where
  place_found : (xs : List A) (d : A) → place_in same a xs < length xs → same a (get_or xs (place_in same a xs) d) ≡ true
  unfolding place_in
  place_found [] d l = absurd (not-suc-le-zero l)
  place_found (x ∷ xs) d l = go (same a x) refl l (place_found xs d)
    where
      at : Bool → ℕ
      at t = pick t zero (suc (place_in same a xs))

      go : (t : Bool) → same a x ≡ t → at t < suc (length xs) → (place_in same a xs < length xs → same a (get_or xs (place_in same a xs) d) ≡ true)
          → same a (get_or (x ∷ xs) (at t) d) ≡ true
      go true t l rest = t
      go false t l rest = rest (le_of_suc-le-suc l)

  place-within : {x : A} (xs : List A) → Memᴰ x xs → same a x ≡ true → place_in same a xs < length xs
  unfolding place_in
  place-within [] m t = elim m [ ]
  place-within (y ∷ ys) (Memᴰ.head e) t = rw (ap (same a) (sym e) ∙ t) (omega arith)
  place-within (y ∷ ys) (Memᴰ.tail m) t =
      let rest = place-within ys m t in
      pick_both (λ n. n < suc (length ys)) (same a y) zero (suc (place_in same a ys)) (omega arith) (omega arith)

-- ---- the command that has a code

same_code_lem : (xs ys : List ℕ) → same_code xs ys ≡ true → xs ≡ ys
same_code_lem [] [] t = refl
same_code_lem [] (y ∷ ys) t = absurd (true≢false (sym t))
same_code_lem (x ∷ xs) [] t = absurd (true≢false (sym t))
same_code_lem (x ∷ xs) (y ∷ ys) t =
    let p = (and-eq-true_iff (eqb x y) (same_code xs ys)).0 t in
    ap₂ ◌∷◌ (eqb-true x y p.0) (same_code_lem xs ys p.1)

code_same : (xs : List ℕ) → same_code xs xs ≡ true
code_same [] = refl
code_same (x ∷ xs) = both (eq-eqb x x refl) (code_same xs)

pub codes_count_lem : length codes ≡ 544
unfolding codes
codes_count_lem = length-map commands four_bytes ∙ commands_count

pub code_of-named : (code : List ℕ) → among code ≡ true → (command_ok (command_of code) ≡ true) × (four_bytes (command_of code) ≡ code)
unfolding code_place command_of codes
code_of-named code t =
    let p = code_place code in
    let within : p < 544 = ltb-true p 544 t in
    let in-codes : p < length codes = subst (λ (n : ℕ). p < n) (sym codes_count_lem) within in
    let in_list : p < length commands = subst (λ (n : ℕ). p < n) (sym commands_count) within in
    let at : code ≡ get_or codes p (four_bytes (Bright 0)) = same_code_lem code _ (place_found same_code code codes (four_bytes (Bright 0)) in-codes) in
    (commands_ok (command_of code) (get_d_mem commands p (Bright 0) in_list), sym (at ∙ get_or-map four_bytes commands p (Bright 0)))

pub named_of_code : (k : RadioCommand) → command_ok k ≡ true → (among (four_bytes k) ≡ true) × (command_of (four_bytes k) ≡ k)
unfolding code_place codes
named_of_code k ok =
    let in-codes = place-within same_code (four_bytes k) codes (Memᴰ.map four_bytes (in_commands k ok)) (code_same (four_bytes k)) in
    let within : code_place (four_bytes k) < 544 = subst (λ (n : ℕ). code_place (four_bytes k) < n) codes_count_lem in-codes in
    let one : among (four_bytes k) ≡ true = lt-ltb (code_place (four_bytes k)) 544 within in
    let named = code_of-named (four_bytes k) one in
    (one, no_shared_code (command_of (four_bytes k)) k named.0 ok named.1)
