pub mod ListItem
pub mod ListItemLaws
