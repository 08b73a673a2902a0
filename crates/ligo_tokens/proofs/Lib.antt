mod TokensLemmas
mod GapLaws
mod LayoutLaws
