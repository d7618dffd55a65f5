-- How often a place is that of a name of an expression, form by form.
use Rattle.std.proofs.Common.{◌≡◌, ◌+◌, ℕ, Bool, List, [], ◌∷◌, ◌++◌, map, Option, Some, None, refl, ap, ◌∙◌, arith}
use Rattle.tla_ast.specs.declared.place.Place.{Place}
use Rattle.tla_ast.specs.declared.tree.Decl.{Decl}
use Rattle.tla_ast.specs.declared.tree.Node.{Node, out-Node, out-roll-Node}
use Rattle.tla_ast.specs.declared.tree.Form.{Form}
use Rattle.tla_ast.specs.declared.tree.Form.TheVariants as form
use Rattle.tla_ast.specs.declared.tree.Path.{roll-Path, out-roll-Path}
use Rattle.tla_ast.specs.declared.tree.Def.{out-roll-Def}
use Rattle.tla_ast.specs.declared.tree.Key.{Key}
use Rattle.tla_ast.specs.declared.tree.Key.TheVariants as key
use Rattle.tla_ast.specs.declared.tree.Group.{out-roll-Group}
use Rattle.plain_syntax.specs.Plain.{Text, Keys, Groups, Defs}
use Rattle.plain_syntax.specs.Plain.Groups.{end_groups}
use Rattle.plain_syntax.specs.Plain.Defs.{def}
use Rattle.plain_syntax.specs.Plain.Shape.{name, call, number, text, prefixed, infixed, prime, index, field, enum, filter, image, tuple, function, functions, fields, field_sets, box, angle, junction, quantifier, choice, conditional, cases, local, at, fair}
use Rattle.plain_syntax.specs.Syntax.{Held, with_parts, except_of, with_domain, set_of, term_of, terms_of, keys_of, each_key, updates_of, each_group, each_def, groups_of, defs_of}
use Rattle.plain_syntax.proofs.Forms.{is-name, is-call, is-number, is-text, is-prefixed, is-infixed, is-prime, is-index, is-field, is-enum, is-filter, is-image, is-tuple, is-function, is-functions, is-except, is-fields, is-field-sets, is-box, is-angle, is-junction, is-quantifier, is-choice, is-conditional, is-cases, is-local, is-at, is-fair, is-path, is-key, is-field-key, is-group, is-def}
use Rattle.layout_parser.specs.Reading.{node, group}
use Rattle.layout_parser.specs.Spelling.{parts_of, Update, paths_of, values_of, Bound, group_of, Definition, def_of}
use Rattle.name_places.specs.Places.{places, all_places, over_places, value_places, set_places, bound_places, update_places, key_places, definition_places, decl_places}
use Rattle.reading_places.proofs.Counting.{hit, count, count-append, total}

module _ (p : Place) where
  -- the names of a node
  abbrev pub in_node : Node → ℕ
  in_node n = count p (places (term_of n))

  abbrev pub in_nodes : List Node → ℕ
  in_nodes = total in_node

  abbrev pub in_decls : List Decl → ℕ
  in_decls = total (λ (d : Decl). hit p d.place)

  pub all-parts : (ns : List Node) → count p (all_places (terms_of (map term_of ns))) ≡ in_nodes ns
  all-parts [] = refl
  all-parts (n ∷ ns) = count-append p (places (term_of n)) _ ∙ ap (λ k. in_node n + k) (all-parts ns)

  -- a node by what its form holds
  rolled : (f : Form) (ns : List Node) (q : Place) (h : Held)
      → ((out-Node (node f ns q)).form ≡ f → term_of (node f ns q) ≡ h (map term_of (out-Node (node f ns q)).parts) (out-Node (node f ns q)).place)
      → in_node (node f ns q) ≡ count p (places (h (map term_of ns) q))
  rolled f ns q h e =
      let o = out-roll-Node (record { form = f; parts = ns; place = q }) in
      let t = e (λ i. (o i).form) in
      (λ i. count p (places (t i))) ∙ (λ i. count p (places (h (map term_of (o i).parts) (o i).place)))

  -- ---- forms whose names are those of their parts

  pub of-number : (k : ℕ) (ns : List Node) (q : Place) → in_node (node (form.Number k) ns q) ≡ in_nodes ns
  of-number k ns q = rolled (form.Number k) ns q (with_parts (number k)) (is-number _ k) ∙ all-parts ns

  pub of-text : (s : Text) (ns : List Node) (q : Place) → in_node (node (form.Str s) ns q) ≡ in_nodes ns
  of-text s ns q = rolled (form.Str s) ns q (with_parts (text s)) (is-text _ s) ∙ all-parts ns

  pub of-prime : (ns : List Node) (q : Place) → in_node (node form.Prime ns q) ≡ in_nodes ns
  of-prime ns q = rolled form.Prime ns q (with_parts prime) (is-prime _) ∙ all-parts ns

  pub of-index : (ns : List Node) (q : Place) → in_node (node form.Index ns q) ≡ in_nodes ns
  of-index ns q = rolled form.Index ns q (with_parts index) (is-index _) ∙ all-parts ns

  pub of-field : (h : Text) (ns : List Node) (q : Place) → in_node (node (form.Field h) ns q) ≡ in_nodes ns
  of-field h ns q = rolled (form.Field h) ns q (with_parts (field h)) (is-field _ h) ∙ all-parts ns

  pub of-enum : (ns : List Node) (q : Place) → in_node (node form.Enum ns q) ≡ in_nodes ns
  of-enum ns q = rolled form.Enum ns q (with_parts enum) (is-enum _) ∙ all-parts ns

  pub of-tuple : (ns : List Node) (q : Place) → in_node (node form.Tuple ns q) ≡ in_nodes ns
  of-tuple ns q = rolled form.Tuple ns q (with_parts tuple) (is-tuple _) ∙ all-parts ns

  pub of-functions : (ns : List Node) (q : Place) → in_node (node form.FunctionSet ns q) ≡ in_nodes ns
  of-functions ns q = rolled form.FunctionSet ns q (with_parts functions) (is-functions _) ∙ all-parts ns

  pub of-box : (ns : List Node) (q : Place) → in_node (node form.BoxAct ns q) ≡ in_nodes ns
  of-box ns q = rolled form.BoxAct ns q (with_parts box) (is-box _) ∙ all-parts ns

  pub of-angle : (ns : List Node) (q : Place) → in_node (node form.AngleAct ns q) ≡ in_nodes ns
  of-angle ns q = rolled form.AngleAct ns q (with_parts angle) (is-angle _) ∙ all-parts ns

  pub of-junction : (all : Bool) (ns : List Node) (q : Place) → in_node (node (form.Junction all) ns q) ≡ in_nodes ns
  of-junction all ns q = rolled (form.Junction all) ns q (with_parts (junction all)) (is-junction _ all) ∙ all-parts ns

  pub of-conditional : (ns : List Node) (q : Place) → in_node (node form.If ns q) ≡ in_nodes ns
  of-conditional ns q = rolled form.If ns q (with_parts conditional) (is-conditional _) ∙ all-parts ns

  pub of-cases : (other : Bool) (ns : List Node) (q : Place) → in_node (node (form.Case other) ns q) ≡ in_nodes ns
  of-cases other ns q = rolled (form.Case other) ns q (with_parts (cases other)) (is-cases _ other) ∙ all-parts ns

  pub of-at : (ns : List Node) (q : Place) → in_node (node form.At ns q) ≡ in_nodes ns
  of-at ns q = rolled form.At ns q (with_parts at) (is-at _) ∙ all-parts ns

  pub of-fair : (strong : Bool) (ns : List Node) (q : Place) → in_node (node (form.Fair strong) ns q) ≡ in_nodes ns
  of-fair strong ns q = rolled (form.Fair strong) ns q (with_parts fair) (is-fair _ strong) ∙ all-parts ns

  -- ---- forms that are names

  named : (ns : List Node) (q : Place) → count p (all_places (terms_of (map term_of ns)) ++ q ∷ []) ≡ in_nodes ns + hit p q
  named ns q = omega (arith, count-append p (all_places (terms_of (map term_of ns))) (q ∷ []), all-parts ns)

  pub of-name : (x : Text) (ns : List Node) (q : Place) → in_node (node (form.Name x) ns q) ≡ in_nodes ns + hit p q
  of-name x ns q = rolled (form.Name x) ns q (with_parts (name x)) (is-name _ x) ∙ named ns q

  pub of-call : (x : Text) (ns : List Node) (q : Place) → in_node (node (form.Call x) ns q) ≡ in_nodes ns + hit p q
  of-call x ns q = rolled (form.Call x) ns q (with_parts (call x)) (is-call _ x) ∙ named ns q

  pub of-prefix : (o : Text) (ns : List Node) (q : Place) → in_node (node (form.Prefix o) ns q) ≡ in_nodes ns + hit p q
  of-prefix o ns q = rolled (form.Prefix o) ns q (with_parts (prefixed o)) (is-prefixed _ o) ∙ named ns q

  pub of-infix : (o : Text) (ns : List Node) (q : Place) → in_node (node (form.Infix o) ns q) ≡ in_nodes ns + hit p q
  of-infix o ns q = rolled (form.Infix o) ns q (with_parts (infixed o)) (is-infixed _ o) ∙ named ns q

  -- ---- forms that bind one name

  over : (set e : Node) (q : Place) → count p (over_places q (terms_of (map term_of (set ∷ e ∷ [])))) ≡ in_node set + hit p q + in_node e
  over set e q = omega (arith, count-append p (places (term_of set)) (q ∷ places (term_of e) ++ []), count-append p (places (term_of e)) [])

  pub of-filter : (x : Text) (set e : Node) (q : Place) → in_node (node (form.Filter x) (set ∷ e ∷ []) q) ≡ in_node set + hit p q + in_node e
  of-filter x set e q = rolled (form.Filter x) (set ∷ e ∷ []) q (with_parts (filter x)) (is-filter _ x) ∙ over set e q

  pub of-image : (x : Text) (set e : Node) (q : Place) → in_node (node (form.Image x) (set ∷ e ∷ []) q) ≡ in_node set + hit p q + in_node e
  of-image x set e q = rolled (form.Image x) (set ∷ e ∷ []) q (with_parts (image x)) (is-image _ x) ∙ over set e q

  pub of-function : (x : Text) (set e : Node) (q : Place) → in_node (node (form.Function x) (set ∷ e ∷ []) q) ≡ in_node set + hit p q + in_node e
  of-function x set e q = rolled (form.Function x) (set ∷ e ∷ []) q (with_parts (function x)) (is-function _ x) ∙ over set e q

  -- ---- records

  abbrev pub in_values : List (Decl × Node) → ℕ
  in_values = total (λ (f : Decl × Node). in_node f.1)

  values : (fs : List (Decl × Node)) → count p (value_places (terms_of (map term_of (parts_of fs)))) ≡ in_values fs
  values [] = refl
  values (f ∷ fs) = count-append p (places (term_of f.1)) _ ∙ ap (λ k. in_node f.1 + k) (values fs)

  pub of-fields : (hs : List Text) (fs : List (Decl × Node)) (q : Place) → in_node (node (form.Record hs) (parts_of fs) q) ≡ in_values fs
  of-fields hs fs q = rolled (form.Record hs) (parts_of fs) q (with_parts (fields hs)) (is-fields _ hs) ∙ values fs

  pub of-field-sets : (hs : List Text) (fs : List (Decl × Node)) (q : Place) → in_node (node (form.RecordSet hs) (parts_of fs) q) ≡ in_values fs
  of-field-sets hs fs q = rolled (form.RecordSet hs) (parts_of fs) q (with_parts (field_sets hs)) (is-field-sets _ hs) ∙ values fs

  -- ---- EXCEPT

  abbrev pub in_key : Key → ℕ
  in_key (key.At n) = in_node n
  in_key (key.Field h) = 0

  abbrev pub in_keys : List Key → ℕ
  in_keys = total in_key

  abbrev pub in_update : Update → ℕ
  in_update u = in_key u.0 + in_keys u.1 + in_node u.2

  keys : (ks : List Key) → count p (key_places (each_key ks)) ≡ in_keys ks
  keys [] = refl
  keys (key.At n ∷ ks) = ap (λ (f : Keys → Keys). count p (key_places (f (each_key ks)))) (is-key n) ∙ count-append p (places (term_of n)) _ ∙ ap (λ k. in_node n + k) (keys ks)
  keys (key.Field h ∷ ks) =
      let e : count p (key_places (each_key (key.Field h ∷ ks))) ≡ count p (key_places (each_key ks)) = ap (λ (f : Keys → Keys). count p (key_places (f (each_key ks)))) (is-field-key h) in
      omega (arith, e, keys ks)

  of-path : (ks : List Key) → keys_of (roll-Path (record { keys = ks })) ≡ each_key ks
  of-path ks = let o = out-roll-Path (record { keys = ks }) in is-path _ ∙ (λ i. each_key (o i).keys)

  updates : (us : List Update) → count p (update_places (updates_of (map keys_of (paths_of us)) (map term_of (values_of us)))) ≡ total in_update us
  updates [] = refl
  updates (u ∷ us) =
      let ks = keys_of (roll-Path (record { keys = u.0 ∷ u.1 })) in
      let more = update_places (updates_of (map keys_of (paths_of us)) (map term_of (values_of us))) in
      let e : count p (key_places ks) ≡ in_keys (u.0 ∷ u.1) = ap (λ k. count p (key_places k)) (of-path (u.0 ∷ u.1)) ∙ keys (u.0 ∷ u.1) in
      omega (arith, count-append p (key_places ks) (places (term_of u.2) ++ more), count-append p (places (term_of u.2)) more, updates us, e)

  pub of-except : (f : Node) (us : List Update) (q : Place) → in_node (node (form.Except (paths_of us)) (f ∷ values_of us) q) ≡ in_node f + total in_update us
  of-except f us q =
      let more = update_places (updates_of (map keys_of (paths_of us)) (map term_of (values_of us))) in
      rolled (form.Except (paths_of us)) (f ∷ values_of us) q (except_of (map keys_of (paths_of us))) (is-except _ (paths_of us))
      ∙ (omega (arith, count-append p (places (term_of f) ++ []) more, count-append p (places (term_of f)) [], updates us))

  -- ---- bound names

  pub declared-places : (ds : List Decl) → count p (decl_places ds) ≡ in_decls ds
  declared-places [] = refl
  declared-places (d ∷ ds) = ap (λ k. hit p d.place + k) (declared-places ds)

  pub of-group : (ds : List Decl) (set : Option Node) → groups_of (group ds set) ≡ with_domain ds (set_of set)
  of-group ds set = let o = out-roll-Group (record { names = ds; domain = set }) in is-group _ ∙ (λ i. with_domain (o i).names (set_of (o i).domain))

  abbrev pub in_bound : Bound → ℕ
  in_bound b = hit p b.0.place + in_decls b.1 + in_node b.2

  abbrev pub in_sets : List Bound → ℕ
  in_sets = total (λ (b : Bound). in_node b.2)

  pub sets : (bs : List Bound) → count p (set_places (each_group (map group_of bs))) ≡ in_sets bs
  sets [] = refl
  sets (b ∷ bs) =
      ap (λ (f : Groups → Groups). count p (set_places (f (each_group (map group_of bs))))) (of-group (b.0 ∷ b.1) (Some b.2))
      ∙ count-append p (places (term_of b.2)) _ ∙ ap (λ k. in_node b.2 + k) (sets bs)

  bound : (bs : List Bound) → in_sets bs + count p (bound_places (each_group (map group_of bs))) ≡ total in_bound bs
  bound [] = refl
  bound (b ∷ bs) =
      let more = bound_places (each_group (map group_of bs)) in
      let e : count p (bound_places (each_group (map group_of (b ∷ bs)))) ≡ count p (decl_places (b.0 ∷ b.1) ++ more) =
      ap (λ (f : Groups → Groups). count p (bound_places (f (each_group (map group_of bs))))) (of-group (b.0 ∷ b.1) (Some b.2)) in
      omega (arith, e, count-append p (decl_places (b.0 ∷ b.1)) more, declared-places (b.0 ∷ b.1), bound bs)

  quantified : (gs : Groups) (body : Node) → count p (set_places gs ++ (bound_places gs ++ all_places (terms_of (map term_of (body ∷ []))))) ≡ count p (set_places gs) + count p (bound_places gs) + in_node body
  quantified gs body =
      omega (arith, count-append p (set_places gs) (bound_places gs ++ (places (term_of body) ++ [])), count-append p (bound_places gs) (places (term_of body) ++ []), count-append p (places (term_of body)) [])

  pub of-bounded : (all : Bool) (bs : List Bound) (body : Node) (q : Place) → in_node (node (form.Quant all (map group_of bs)) (body ∷ []) q) ≡ total in_bound bs + in_node body
  of-bounded all bs body q =
      rolled (form.Quant all (map group_of bs)) (body ∷ []) q (with_parts (quantifier all (each_group (map group_of bs)))) (is-quantifier _ all (map group_of bs))
      ∙ (omega (arith, quantified (each_group (map group_of bs)) body, sets bs, bound bs))

  pub of-unbounded : (all : Bool) (ds : List Decl) (body : Node) (q : Place) → in_node (node (form.Quant all (group ds None ∷ [])) (body ∷ []) q) ≡ in_decls ds + in_node body
  of-unbounded all ds body q =
      let gs = each_group (group ds None ∷ []) in
      let s : count p (set_places gs) ≡ 0 = ap (λ (f : Groups → Groups). count p (set_places (f end_groups))) (of-group ds None) in
      let b : count p (bound_places gs) ≡ count p (decl_places ds ++ []) = ap (λ (f : Groups → Groups). count p (bound_places (f end_groups))) (of-group ds None) in
      rolled (form.Quant all (group ds None ∷ [])) (body ∷ []) q (with_parts (quantifier all (each_group (group ds None ∷ [])))) (is-quantifier _ all (group ds None ∷ []))
      ∙ (omega (arith, quantified gs body, s, b, count-append p (decl_places ds) [], declared-places ds))

  abbrev pub in_set : Option Node → ℕ
  in_set None = 0
  in_set (Some n) = in_node n

  pub of-choice : (d : Decl) (set : Option Node) (body : Node) (q : Place) → in_node (node (form.Choose (group (d ∷ []) set)) (body ∷ []) q) ≡ hit p d.place + in_set set + in_node body
  of-choice d None body q =
      let g = group (d ∷ []) None in
      let gs = groups_of g end_groups in
      let s : count p (set_places gs) ≡ 0 = ap (λ (f : Groups → Groups). count p (set_places (f end_groups))) (of-group (d ∷ []) None) in
      let b : count p (bound_places gs) ≡ hit p d.place + 0 = ap (λ (f : Groups → Groups). count p (bound_places (f end_groups))) (of-group (d ∷ []) None) in
      rolled (form.Choose g) (body ∷ []) q (with_parts (choice gs)) (is-choice _ g) ∙ (omega (arith, quantified gs body, s, b))
  of-choice d (Some set) body q =
      let g = group (d ∷ []) (Some set) in
      let gs = groups_of g end_groups in
      let s : count p (set_places gs) ≡ count p (places (term_of set) ++ []) = ap (λ (f : Groups → Groups). count p (set_places (f end_groups))) (of-group (d ∷ []) (Some set)) in
      let b : count p (bound_places gs) ≡ hit p d.place + 0 = ap (λ (f : Groups → Groups). count p (bound_places (f end_groups))) (of-group (d ∷ []) (Some set)) in
      rolled (form.Choose g) (body ∷ []) q (with_parts (choice gs)) (is-choice _ g) ∙ (omega (arith, quantified gs body, s, b, count-append p (places (term_of set)) []))

  -- ---- definitions

  abbrev pub in_definition : Definition → ℕ
  in_definition d = hit p d.0.place + in_decls d.1 + in_node d.2

  of-def : (d : Definition) → defs_of (def_of d) ≡ def d.0.name d.1 (term_of d.2) d.0.place
  of-def d = let o = out-roll-Def (record { name = d.0.name; params = d.1; body = d.2; place = d.0.place }) in is-def _ ∙ (λ i. def (o i).name (o i).params (term_of (o i).body) (o i).place)

  pub defined : (ds : List Definition) → count p (definition_places (each_def (map def_of ds))) ≡ total in_definition ds
  defined [] = refl
  defined (d ∷ ds) =
      let more = definition_places (each_def (map def_of ds)) in
      let e : count p (definition_places (each_def (map def_of (d ∷ ds)))) ≡ count p ((decl_places d.1 ++ places (term_of d.2)) ++ d.0.place ∷ more) =
      ap (λ (f : Defs → Defs). count p (definition_places (f (each_def (map def_of ds))))) (of-def d) in
      omega (arith, e, count-append p (decl_places d.1 ++ places (term_of d.2)) (d.0.place ∷ more), count-append p (decl_places d.1) (places (term_of d.2)), declared-places d.1, defined ds)

  pub of-local : (ds : List Definition) (body : Node) (q : Place) → in_node (node (form.Let (map def_of ds)) (body ∷ []) q) ≡ total in_definition ds + in_node body
  of-local ds body q =
      rolled (form.Let (map def_of ds)) (body ∷ []) q (with_parts (local (each_def (map def_of ds)))) (is-local _ (map def_of ds))
      ∙ (omega (arith, count-append p (definition_places (each_def (map def_of ds))) (places (term_of body) ++ []), count-append p (places (term_of body)) [], defined ds))
