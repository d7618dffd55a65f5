-- Laws of putting.
use Rattle.std.specs.Prelude.{◌≡◌, ℕ, suc, ◌+◌, ◌-◌, ◌<◌, ◌≤◌, Bool, true, false, cond, nat_lt, nat_eq, Option, Some, None}
use Rattle.std.proofs.Common.{refl, ap, sym, ◌∙◌, arith}
use Rattle.std.proofs.lemmas.Bool.Decides.{nat_tests}
use Rattle.core_expr.specs.declared.head.Sym.{Sym}
use Rattle.core_expr.specs.Tree.{Tree, Parts, size}
use Rattle.core_expr.specs.Tree.Tree.{bound, app, node, bind}
use Rattle.core_expr.specs.Tree.Parts.{end, part}
use Rattle.core_expr.specs.Put.{shift, shifts, argument, put, puts, inst, apply_body, sub, subs, IsScoped, AreScoped}

-- lemmas
shift_var : (a b c d x y i : ℕ) → x ≡ a + b → y ≡ d + c → b ≤ d → cond (nat_lt (cond (nat_lt i a) i (i + d)) x) (cond (nat_lt i a) i (i + d)) ((cond (nat_lt i a) i (i + d)) + c) ≡ cond (nat_lt i a) i (i + y)
shift_var a b c d x y i e1 e2 h = grind (arith, nat_tests)

mutual
  pub shift-shift : (a b c d x y : ℕ) (e : Tree) → x ≡ a + b → y ≡ d + c → b ≤ d → shift x c (shift a d e) ≡ shift a y e
  shift-shift a b c d x y (bound i) e1 e2 h = ap bound (shift_var a b c d x y i e1 e2 h)
  shift-shift a b c d x y (app f ps) e1 e2 h = ap (app f) (shifts-shifts a b c d x y ps e1 e2 h)
  shift-shift a b c d x y (node f ns ps) e1 e2 h = ap (node f ns) (shifts-shifts a b c d x y ps e1 e2 h)
  shift-shift a b c d x y (bind o ps e) e1 e2 h = λ i. bind o ((shifts-shifts a b c d x y ps e1 e2 h) i) ((shift-shift (suc a) b c d (suc x) y e (omega arith) e2 h) i)

  pub shifts-shifts : (a b c d x y : ℕ) (ps : Parts) → x ≡ a + b → y ≡ d + c → b ≤ d → shifts x c (shifts a d ps) ≡ shifts a y ps
  shifts-shifts a b c d x y end e1 e2 h = refl
  shifts-shifts a b c d x y (part e ps) e1 e2 h = λ i. part (shift-shift a b c d x y e e1 e2 h i) (shifts-shifts a b c d x y ps e1 e2 h i)

swap_var : (a b c d x i : ℕ) → x ≡ b + d → a ≤ b → cond (nat_lt (cond (nat_lt i a) i (i + d)) x) (cond (nat_lt i a) i (i + d)) ((cond (nat_lt i a) i (i + d)) + c) ≡ cond (nat_lt (cond (nat_lt i b) i (i + c)) a) (cond (nat_lt i b) i (i + c)) (cond (nat_lt i b) i (i + c) + d)
swap_var a b c d x i e h = grind (arith, nat_tests)

mutual
  pub shift-swap : (a b c d x : ℕ) (e : Tree) → x ≡ b + d → a ≤ b → shift x c (shift a d e) ≡ shift a d (shift b c e)
  shift-swap a b c d x (bound i) e h = ap bound (swap_var a b c d x i e h)
  shift-swap a b c d x (app f ps) e h = ap (app f) (shifts-swap a b c d x ps e h)
  shift-swap a b c d x (node f ns ps) e h = ap (node f ns) (shifts-swap a b c d x ps e h)
  shift-swap a b c d x (bind o ps g) e h = λ i. bind o ((shifts-swap a b c d x ps e h) i) ((shift-swap (suc a) (suc b) c d (suc x) g (omega arith) (omega arith)) i)

  pub shifts-swap : (a b c d x : ℕ) (ps : Parts) → x ≡ b + d → a ≤ b → shifts x c (shifts a d ps) ≡ shifts a d (shifts b c ps)
  shifts-swap a b c d x end e h = refl
  shifts-swap a b c d x (part g ps) e h = λ i. part (shift-swap a b c d x g e h i) (shifts-swap a b c d x ps e h i)

pub size-shifts : (b c : ℕ) (ps : Parts) → size (shifts b c ps) ≡ size ps
size-shifts b c end = refl
size-shifts b c (part e ps) = ap suc (size-shifts b c ps)

pub size-puts : (d : ℕ) (ts ps : Parts) → size (puts d ts ps) ≡ size ps
size-puts d ts end = refl
size-puts d ts (part e ps) = ap suc (size-puts d ts ps)

pub size-subs : (s : Sym → Option Tree) (ps : Parts) → size (subs s ps) ≡ size ps
size-subs s end = refl
size-subs s (part e ps) = ap suc (size-subs s ps)

-- a choice under a function
push_cond : {A B : Type 0} (f : A → B) (b : Bool) (x y : A) → f (cond b x y) ≡ cond b (f x) (f y)
push_cond f true x y = refl
push_cond f false x y = refl

-- two choices by one test
same_cond : {A : Type 0} (b : Bool) (x y z w : A) → (b ≡ true → x ≡ z) → (b ≡ false → y ≡ w) → cond b x y ≡ cond b z w
same_cond true x y z w p q = p refl
same_cond false x y z w p q = q refl

argument-shifts : (b c : ℕ) (ps : Parts) (j : ℕ) → argument (shifts b c ps) j ≡ shift b c (argument ps j)
argument-shifts b c end j = refl
argument-shifts b c (part e ps) j =
    rw (size-shifts b c ps, argument-shifts b c ps j) (sym (push_cond (shift b c) (nat_eq j (size ps)) e (argument ps j)))

argument-puts : (d : ℕ) (ts ps : Parts) (j : ℕ) → argument (puts d ts ps) j ≡ put d ts (argument ps j)
argument-puts d ts end j = refl
argument-puts d ts (part e ps) j =
    rw (size-puts d ts ps, argument-puts d ts ps j) (sym (push_cond (put d ts) (nat_eq j (size ps)) e (argument ps j)))

argument-subs : (s : Sym → Option Tree) (ps : Parts) (j : ℕ) → argument (subs s ps) j ≡ sub s (argument ps j)
argument-subs s end j = refl
argument-subs s (part e ps) j =
    rw (size-subs s ps, argument-subs s ps j) (sym (push_cond (sub s) (nat_eq j (size ps)) e (argument ps j)))

put_shift_var : (b c d x : ℕ) (ts : Parts) (i : ℕ) → x ≡ d + c → b ≤ d → put x ts (shift b c (bound i)) ≡ shift b c (put d ts (bound i))
put_shift_var b c d x ts i e h =
    grind (arith, nat_tests, shift-shift 0 b c d b x (argument ts (i - d)) (omega arith) e h, push_cond (shift b c) (nat_lt i d) (bound i) (shift 0 d (argument ts (i - d))))

mutual
  pub put-shift : (b c d x : ℕ) (ts : Parts) (e : Tree) → x ≡ d + c → b ≤ d → put x ts (shift b c e) ≡ shift b c (put d ts e)
  put-shift b c d x ts (bound i) q h = put_shift_var b c d x ts i q h
  put-shift b c d x ts (app f ps) q h = ap (app f) (puts-shifts b c d x ts ps q h)
  put-shift b c d x ts (node f ns ps) q h = ap (node f ns) (puts-shifts b c d x ts ps q h)
  put-shift b c d x ts (bind o ps g) q h = λ i. bind o ((puts-shifts b c d x ts ps q h) i) ((put-shift (suc b) c (suc d) (suc x) ts g (omega arith) (omega arith)) i)

  pub puts-shifts : (b c d x : ℕ) (ts : Parts) (ps : Parts) → x ≡ d + c → b ≤ d → puts x ts (shifts b c ps) ≡ shifts b c (puts d ts ps)
  puts-shifts b c d x ts end q h = refl
  puts-shifts b c d x ts (part g ps) q h = λ i. part (put-shift b c d x ts g q h i) (puts-shifts b c d x ts ps q h i)

shift_put_var : (b c d x : ℕ) (ts : Parts) (i : ℕ) → x ≡ b + d → shift x c (put d ts (bound i)) ≡ put d (shifts b c ts) (bound i)
shift_put_var b c d x ts i e =
    push_cond (shift x c) (nat_lt i d) (bound i) (shift 0 d (argument ts (i - d)))
    ∙ same_cond (nat_lt i d) _ _ _ _ (λ lt. ap bound (shift_put_low b d x c i e lt))
    (λ _. shift-swap 0 b c d x (argument ts (i - d)) e (omega arith) ∙ ap (shift 0 d) (sym (argument-shifts b c ts (i - d))))
  where
    shift_put_low : (b d x c i : ℕ) → x ≡ b + d → nat_lt i d ≡ true → cond (nat_lt i x) i (i + c) ≡ i
    shift_put_low b d x c i e lt = grind (arith, nat_tests)

mutual
  pub shift-put : (b c d x : ℕ) (ts : Parts) (e : Tree) → x ≡ b + d → shift x c (put d ts e) ≡ put d (shifts b c ts) e
  shift-put b c d x ts (bound i) q = shift_put_var b c d x ts i q
  shift-put b c d x ts (app f ps) q = ap (app f) (shifts-puts b c d x ts ps q)
  shift-put b c d x ts (node f ns ps) q = ap (node f ns) (shifts-puts b c d x ts ps q)
  shift-put b c d x ts (bind o ps g) q = λ i. bind o ((shifts-puts b c d x ts ps q) i) ((shift-put b c (suc d) (suc x) ts g (omega arith)) i)

  pub shifts-puts : (b c d x : ℕ) (ts : Parts) (ps : Parts) → x ≡ b + d → shifts x c (puts d ts ps) ≡ puts d (shifts b c ts) ps
  shifts-puts b c d x ts end q = refl
  shifts-puts b c d x ts (part g ps) q = λ i. part (shift-put b c d x ts g q i) (shifts-puts b c d x ts ps q i)

put_put_var : (c d x : ℕ) (ts us : Parts) (i : ℕ) → x ≡ d + c → put x ts (put c us (bound i)) ≡ put c (puts d ts us) (bound i)
put_put_var c d x ts us i e =
    push_cond (put x ts) (nat_lt i c) (bound i) (shift 0 c (argument us (i - c)))
    ∙ same_cond (nat_lt i c) _ _ _ _ (λ lt. low c d x i e lt (shift 0 x (argument ts (i - x))))
    (λ _. put-shift 0 c d x ts (argument us (i - c)) e (omega arith) ∙ ap (shift 0 c) (sym (argument-puts d ts us (i - c))))
  where
    low : (c d x i : ℕ) → x ≡ d + c → nat_lt i c ≡ true → (y : Tree) → cond (nat_lt i x) (bound i) y ≡ bound i
    low c d x i e lt y = grind (arith, nat_tests)

mutual
  pub put-put : (c d x : ℕ) (ts us : Parts) (e : Tree) → x ≡ d + c → put x ts (put c us e) ≡ put c (puts d ts us) e
  put-put c d x ts us (bound i) q = put_put_var c d x ts us i q
  put-put c d x ts us (app f ps) q = ap (app f) (puts-puts c d x ts us ps q)
  put-put c d x ts us (node f ns ps) q = ap (node f ns) (puts-puts c d x ts us ps q)
  put-put c d x ts us (bind o ps g) q = λ i. bind o ((puts-puts c d x ts us ps q) i) ((put-put (suc c) d (suc x) ts us g (omega arith)) i)

  pub puts-puts : (c d x : ℕ) (ts us : Parts) (ps : Parts) → x ≡ d + c → puts x ts (puts c us ps) ≡ puts c (puts d ts us) ps
  puts-puts c d x ts us end q = refl
  puts-puts c d x ts us (part g ps) q = λ i. part (put-put c d x ts us g q i) (puts-puts c d x ts us ps q i)

body-shift : (b c : ℕ) (o : Option Tree) (f : Sym) (ps : Parts) → apply_body o f (shifts b c ps) ≡ shift b c (apply_body o f ps)
body-shift b c None f ps = refl
body-shift b c (Some u) f ps = sym (shift-put b c 0 b ps u (omega arith))

body-put : (d : ℕ) (ts : Parts) (o : Option Tree) (f : Sym) (ps : Parts) → apply_body o f (puts d ts ps) ≡ put d ts (apply_body o f ps)
body-put d ts None f ps = refl
body-put d ts (Some u) f ps = sym (put-put 0 d d ts ps u (omega arith))

mutual
  pub sub-shift : (s : Sym → Option Tree) (b c : ℕ) (e : Tree) → sub s (shift b c e) ≡ shift b c (sub s e)
  sub-shift s b c (bound i) = refl
  sub-shift s b c (app f ps) = ap (apply_body (s f) f) (subs-shifts s b c ps) ∙ body-shift b c (s f) f (subs s ps)
  sub-shift s b c (node f ns ps) = ap (node f ns) (subs-shifts s b c ps)
  sub-shift s b c (bind o ps g) = λ i. bind o ((subs-shifts s b c ps) i) ((sub-shift s (suc b) c g) i)

  pub subs-shifts : (s : Sym → Option Tree) (b c : ℕ) (ps : Parts) → subs s (shifts b c ps) ≡ shifts b c (subs s ps)
  subs-shifts s b c end = refl
  subs-shifts s b c (part g ps) = λ i. part (sub-shift s b c g i) (subs-shifts s b c ps i)

mutual
  pub sub-put : (s : Sym → Option Tree) (d : ℕ) (ts : Parts) (e : Tree) → sub s (put d ts e) ≡ put d (subs s ts) (sub s e)
  sub-put s d ts (bound i) =
      push_cond (sub s) (nat_lt i d) (bound i) (shift 0 d (argument ts (i - d)))
      ∙ ap (cond (nat_lt i d) (bound i)) (sub-shift s 0 d (argument ts (i - d)) ∙ ap (shift 0 d) (sym (argument-subs s ts (i - d))))
  sub-put s d ts (app f ps) = ap (apply_body (s f) f) (subs-puts s d ts ps) ∙ body-put d (subs s ts) (s f) f (subs s ps)
  sub-put s d ts (node f ns ps) = ap (node f ns) (subs-puts s d ts ps)
  sub-put s d ts (bind o ps g) = λ i. bind o ((subs-puts s d ts ps) i) ((sub-put s (suc d) ts g) i)

  pub subs-puts : (s : Sym → Option Tree) (d : ℕ) (ts : Parts) (ps : Parts) → subs s (puts d ts ps) ≡ puts d (subs s ts) (subs s ps)
  subs-puts s d ts end = refl
  subs-puts s d ts (part g ps) = λ i. part (sub-put s d ts g i) (subs-puts s d ts ps i)

pub sub-inst : (s : Sym → Option Tree) (p t : Tree) → sub s (inst p t) ≡ inst (sub s p) (sub s t)
sub-inst s p t = sub-put s 0 (part t end) p

-- scopes
scoped_cond : (n : ℕ) (b : Bool) (x y : Tree) → (b ≡ true → IsScoped n x) → IsScoped n y → IsScoped n (cond b x y)
scoped_cond n true x y p q = p refl
scoped_cond n false x y p q = q

mutual
  pub IsScoped-shift : (n b c x : ℕ) (e : Tree) → x ≡ n + c → IsScoped n e → IsScoped x (shift b c e)
  IsScoped-shift n b c x (bound i) q h = var n b c x i q h
    where
      var : (n b c x i : ℕ) → x ≡ n + c → i < n → cond (nat_lt i b) i (i + c) < x
      var n b c x i q h = grind (arith, nat_tests)
  IsScoped-shift n b c x (app f ps) q h = AreScoped-shifts n b c x ps q h
  IsScoped-shift n b c x (node f ns ps) q h = AreScoped-shifts n b c x ps q h
  IsScoped-shift n b c x (bind o ps g) q h = (AreScoped-shifts n b c x ps q h.0, IsScoped-shift (suc n) (suc b) c (suc x) g (omega arith) h.1)

  pub AreScoped-shifts : (n b c x : ℕ) (ps : Parts) → x ≡ n + c → AreScoped n ps → AreScoped x (shifts b c ps)
  AreScoped-shifts n b c x end q h = tt
  AreScoped-shifts n b c x (part g ps) q h = (IsScoped-shift n b c x g q h.0, AreScoped-shifts n b c x ps q h.1)

argument-scoped : (n : ℕ) (ts : Parts) (j : ℕ) → AreScoped n ts → IsScoped n (argument ts j)
argument-scoped n end j h = tt
argument-scoped n (part e ts) j h = scoped_cond n (nat_eq j (size ts)) e (argument ts j) (λ _. h.0) (argument-scoped n ts j h.1)

mutual
  -- with no condition on what is put into
  pub IsScoped-put : (n d x : ℕ) (ts : Parts) (e : Tree) → x ≡ n + d → AreScoped n ts → IsScoped x (put d ts e)
  IsScoped-put n d x ts (bound i) q h =
      scoped_cond x (nat_lt i d) (bound i) (shift 0 d (argument ts (i - d))) (λ lt. low n d x i q lt)
      (IsScoped-shift n 0 d x (argument ts (i - d)) q (argument-scoped n ts (i - d) h))
    where
      low : (n d x i : ℕ) → x ≡ n + d → nat_lt i d ≡ true → i < x
      low n d x i q lt = grind (arith, nat_tests)
  IsScoped-put n d x ts (app f ps) q h = AreScoped-puts n d x ts ps q h
  IsScoped-put n d x ts (node f ns ps) q h = AreScoped-puts n d x ts ps q h
  IsScoped-put n d x ts (bind o ps g) q h = (AreScoped-puts n d x ts ps q h, IsScoped-put n (suc d) (suc x) ts g (omega arith) h)

  pub AreScoped-puts : (n d x : ℕ) (ts ps : Parts) → x ≡ n + d → AreScoped n ts → AreScoped x (puts d ts ps)
  AreScoped-puts n d x ts end q h = tt
  AreScoped-puts n d x ts (part g ps) q h = (IsScoped-put n d x ts g q h, AreScoped-puts n d x ts ps q h)

scoped_body : (n : ℕ) (o : Option Tree) (f : Sym) (ps : Parts) → AreScoped n ps → IsScoped n (apply_body o f ps)
scoped_body n None f ps h = h
scoped_body n (Some u) f ps h = IsScoped-put n 0 n ps u (omega arith) h

mutual
  pub IsScoped-sub : (s : Sym → Option Tree) (n : ℕ) (e : Tree) → IsScoped n e → IsScoped n (sub s e)
  IsScoped-sub s n (bound i) h = h
  IsScoped-sub s n (app f ps) h = scoped_body n (s f) f (subs s ps) (AreScoped-subs s n ps h)
  IsScoped-sub s n (node f ns ps) h = AreScoped-subs s n ps h
  IsScoped-sub s n (bind o ps g) h = (AreScoped-subs s n ps h.0, IsScoped-sub s (suc n) g h.1)

  pub AreScoped-subs : (s : Sym → Option Tree) (n : ℕ) (ps : Parts) → AreScoped n ps → AreScoped n (subs s ps)
  AreScoped-subs s n end h = tt
  AreScoped-subs s n (part g ps) h = (IsScoped-sub s n g h.0, AreScoped-subs s n ps h.1)

mutual
  pub put_closed : (n d : ℕ) (ts : Parts) (e : Tree) → n ≤ d → IsScoped n e → put d ts e ≡ e
  put_closed n d ts (bound i) q h = low n d i q h (shift 0 d (argument ts (i - d)))
    where
      low : (n d i : ℕ) → n ≤ d → i < n → (y : Tree) → cond (nat_lt i d) (bound i) y ≡ bound i
      low n d i q h y = grind (arith, nat_tests)
  put_closed n d ts (app f ps) q h = ap (app f) (puts_closed n d ts ps q h)
  put_closed n d ts (node f ns ps) q h = ap (node f ns) (puts_closed n d ts ps q h)
  put_closed n d ts (bind o ps g) q h = λ i. bind o ((puts_closed n d ts ps q h.0) i) ((put_closed (suc n) (suc d) ts g (omega arith) h.1) i)

  pub puts_closed : (n d : ℕ) (ts ps : Parts) → n ≤ d → AreScoped n ps → puts d ts ps ≡ ps
  puts_closed n d ts end q h = refl
  puts_closed n d ts (part g ps) q h = λ i. part (put_closed n d ts g q h.0 i) (puts_closed n d ts ps q h.1 i)

mutual
  pub shift_closed : (n b c : ℕ) (e : Tree) → n ≤ b → IsScoped n e → shift b c e ≡ e
  shift_closed n b c (bound i) q h = ap bound (low n b c i q h)
    where
      low : (n b c i : ℕ) → n ≤ b → i < n → cond (nat_lt i b) i (i + c) ≡ i
      low n b c i q h = grind (arith, nat_tests)
  shift_closed n b c (app f ps) q h = ap (app f) (shifts_closed n b c ps q h)
  shift_closed n b c (node f ns ps) q h = ap (node f ns) (shifts_closed n b c ps q h)
  shift_closed n b c (bind o ps g) q h = λ i. bind o ((shifts_closed n b c ps q h.0) i) ((shift_closed (suc n) (suc b) c g (omega arith) h.1) i)

  pub shifts_closed : (n b c : ℕ) (ps : Parts) → n ≤ b → AreScoped n ps → shifts b c ps ≡ ps
  shifts_closed n b c end q h = refl
  shifts_closed n b c (part g ps) q h = λ i. part (shift_closed n b c g q h.0 i) (shifts_closed n b c ps q h.1 i)
