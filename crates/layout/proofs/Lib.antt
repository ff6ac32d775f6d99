pub mod LayoutTurns
