-- How an announcement of a channel changes the view of a map.
use Rattle.std.proofs.Common.{◌≡◌, ℕ, Bool, true, false, ◌||◌, List, ◌∷◌, refl, sym, ap, ◌∙◌, Option, true≢false, is_some, inl, inr}
use Rattle.std.specs.Option.{option_and_then}
use Rattle.std.specs.List.{AllByRecursion, filter}
use Rattle.std.specs.Ordering.{is_lt, is_gt}
use Rattle.std.proofs.lemmas.Bool.{cases_Bool, eqb-true, false_from_ne_true}
use Rattle.lgm_check.specs.declared.row.ChannelRow.{ChannelRow}
use Rattle.lgm_check.specs.declared.row.UpdateRow.{UpdateRow}
use Rattle.lgm_store.specs.Rows.{Rows, by_id, put, channel_of, ends_banned}
use Rattle.lgm_store.specs.History.{with_channel}
use Rattle.lgm_store.specs.Laws.{IsLawful}
use Rattle.lgm_store.proofs.ListLaws.{All-append, All-filter, All-to}
use Rattle.lgm_store.proofs.FoundRowLaws.{channel_of-put}
use Rattle.lgm_graph.specs.declared.nodes.Nodes.{Nodes}
use Rattle.lgm_graph.specs.Edges.{edge_on, edge_in, carrying, takes_payments}
use Rattle.lgm_graph.specs.Graph.{IsGraphOf, IsNumbered}
use Rattle.lgm_graph.specs.inner.Sound.{graph_in, ShowsIn}
use Rattle.lgm_graph.specs.inner.Walk.{KeepsNumbers}
use Rattle.lgm_graph.proofs.KeptEdgeLaws.{filter_map-agree}

module _ (known : Option (List ℕ)) (rows : Rows) (row : ChannelRow) (lawful : IsLawful rows) where
  abbrev stays : Bool
  stays = is_some (channel_of rows.channels row.message.short_channel_id) || ends_banned rows.banned row

  carrying_added : carrying (with_channel rows row) ≡ carrying rows
  carrying_added = elim (cases_Bool stays) [
    | inl e ↦ rw e refl
    | inr e ↦
        rw e (filter_map-agree (edge_in (put by_id rows.channels row)) (edge_in rows.channels) rows.updates
        (All-to _ _ rows.updates (each e) lawful.stored))
  ]
    where
      each : stays ≡ false → (u : UpdateRow) → is_some (channel_of rows.channels u.message.short_channel_id) ≡ true
          → edge_in (put by_id rows.channels row) u ≡ edge_in rows.channels u
      each new u stored =
          ap (λ (o : Option ChannelRow). option_and_then (λ c. edge_on c u) o)
          (channel_of-put u.message.short_channel_id rows.channels row (false_from_ne_true _ (λ f.
          let same = eqb-true row.message.short_channel_id u.message.short_channel_id f in
          let there : is_some (channel_of rows.channels row.message.short_channel_id) ≡ true =
          ap (λ id. is_some (channel_of rows.channels id)) same ∙ stored in
          true≢false (sym (rw there refl) ∙ new))))

  pub nodes_added : (with_channel rows row).nodes ≡ rows.nodes
  nodes_added = elim (cases_Bool stays) [ inl e ↦ rw e refl | inr e ↦ rw e refl ]

  ends_added : (P : ChannelRow → Type 0) → AllByRecursion P rows.channels → P row → AllByRecursion P (with_channel rows row).channels
  ends_added P all own = elim (cases_Bool stays) [
    | inl e ↦ rw e all
    | inr e ↦ rw e (All-append P (filter (λ x. is_lt (by_id x row)) rows.channels) (row ∷ filter (λ x. is_gt (by_id x row)) rows.channels)
        (All-filter P (λ x. is_lt (by_id x row)) rows.channels all) (own, All-filter P (λ x. is_gt (by_id x row)) rows.channels all))
  ]

  -- the view after both nodes are numbered
  pub node_added : (after : Rows) → after ≡ with_channel rows row → (old new : Nodes)
      → IsGraphOf rows (graph_in known old) → KeepsNumbers old.points.keys new.points.keys
      → IsNumbered new.points.keys row.message.node_id_1 → IsNumbered new.points.keys row.message.node_id_2
      → ShowsIn (takes_payments known rows.nodes) (carrying rows) new
      → IsGraphOf after (graph_in known new)
  node_added after is old new graph keeps first second shows = record {
    ends = rw is (ends_added (λ c. IsNumbered new.points.keys c.message.node_id_1 × IsNumbered new.points.keys c.message.node_id_2)
        (All-to _ _ rows.channels (λ c both.
        ((keeps c.message.node_id_1 both.0).1, (keeps c.message.node_id_2 both.1).1)) graph.ends)
        (first, second));
    shows = rw (is, carrying_added, nodes_added) shows;
  }
