pub mod ShutterLaws
